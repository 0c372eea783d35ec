-- Records that are written one behind another.
use Rattle.std.specs.Prelude.{◌≡◌, ◌++◌, List}
use Rattle.std.specs.List.{flat_map}
use Rattle.gds_record.specs.Records.{Rec, spelling}
use Rattle.gds_out.specs.declared.writer.Writer.{Writer}

-- the text has grown by these records
abbrev pub Adds : Writer → Writer → List Rec → Type 0
Adds old new records = new.text.items ≡ old.text.items ++ flat_map spelling records
