-- The table of faults (this project's profile): for each its number, its name and what follows the name.
use Rattle.std.specs.Prelude.{ℕ, ◌==◌, List, [], ◌++◌, codes, decimal, if◌then◌else◌}
use Rattle.fill_text.specs.Keys.{key_name}
use Rattle.fill_text.specs.declared.rule_error.RuleError.{RuleError}
use Rattle.fill_text.specs.declared.rule_error.RuleError.TheVariants as rule
use Rattle.fill_text.specs.declared.script.ScriptError.{ScriptError}
use Rattle.fill_text.specs.declared.script.ScriptError.TheVariants as script
use Rattle.gds_grammar.specs.declared.error.LibraryError.{LibraryError}
use Rattle.gds_grammar.specs.declared.error.LibraryError.TheVariants as library
use Rattle.gds_cells.specs.declared.error.FlattenError.{FlattenError}
use Rattle.gds_cells.specs.declared.error.FlattenError.TheVariants as flatten
use Rattle.fill_core.specs.declared.book.BookError.{BookError}
use Rattle.fill_core.specs.declared.book.BookError.TheVariants as book
use Rattle.densfill_io.specs.declared.input.InputError.{InputError}
use Rattle.densfill_io.specs.declared.input.InputError.TheVariants as input
use Rattle.gds_join.specs.declared.error.PartError.{PartError}
use Rattle.gds_join.specs.declared.error.PartError.TheVariants as parts
use Rattle.densfill_engine.specs.declared.fault.Fault.{Fault}
use Rattle.densfill_engine.specs.declared.fault.Fault.TheVariants.{Truncated, BadLength, Unexpected, DuplicateCell, BadXY, NotClosed, BadArray, NotManhattan, RoundEnd, OddWidth, DoublesBack, BadExtension, NoTop, MissingCell, Cycle, TooDeep, TooManyShapes, TooManyShapesIn, OutOfRange, BadTransform, BadRow, BadNumber, BadRule, TooManyLines, BadRect, BadWindows, BadWindowsIn, BadPitch, TooManyPlaces, TooManyPlacesIn, TooLong, Device, Memory, Unfinished, Mixed, NotAFill, OtherDesign, PlaceTwice, OtherRows}
use Rattle.densfill_engine.specs.declared.refusal.RunFault.{RunFault}
use Rattle.densfill_engine.specs.declared.refusal.RunFault.TheVariants as run

abbrev pub fault_number : Fault → ℕ
fault_number Truncated = 1
fault_number BadLength = 2
fault_number (Unexpected at) = 4
fault_number DuplicateCell = 5
fault_number BadXY = 6
fault_number NotClosed = 7
fault_number BadArray = 8
fault_number NotManhattan = 9
fault_number RoundEnd = 10
fault_number OddWidth = 11
fault_number DoublesBack = 12
fault_number BadExtension = 13
fault_number NoTop = 14
fault_number MissingCell = 15
fault_number Cycle = 16
fault_number TooDeep = 17
fault_number TooManyShapes = 18
fault_number (TooManyShapesIn number count) = 18
fault_number OutOfRange = 19
fault_number BadTransform = 20
fault_number (BadRow line) = 21
fault_number (BadNumber line) = 22
fault_number (BadRule key) = 23
fault_number TooManyLines = 24
fault_number BadRect = 25
fault_number BadWindows = 26
fault_number (BadWindowsIn number count) = 26
fault_number BadPitch = 27
fault_number TooManyPlaces = 28
fault_number (TooManyPlacesIn number count) = 28
fault_number TooLong = 29
fault_number Device = 30
fault_number Memory = 31
fault_number Unfinished = 34
fault_number Mixed = 35
fault_number NotAFill = 39
fault_number OtherDesign = 40
fault_number PlaceTwice = 41
fault_number OtherRows = 42

abbrev pub fault_name : Fault → List ℕ
fault_name Truncated = codes "Truncated"
fault_name BadLength = codes "BadLength"
fault_name (Unexpected at) = codes "Unexpected"
fault_name DuplicateCell = codes "DuplicateCell"
fault_name BadXY = codes "BadXY"
fault_name NotClosed = codes "NotClosed"
fault_name BadArray = codes "BadArray"
fault_name NotManhattan = codes "NotManhattan"
fault_name RoundEnd = codes "RoundEnd"
fault_name OddWidth = codes "OddWidth"
fault_name DoublesBack = codes "DoublesBack"
fault_name BadExtension = codes "BadExtension"
fault_name NoTop = codes "NoTop"
fault_name MissingCell = codes "MissingCell"
fault_name Cycle = codes "Cycle"
fault_name TooDeep = codes "TooDeep"
fault_name TooManyShapes = codes "TooManyShapes"
fault_name (TooManyShapesIn number count) = codes "TooManyShapes"
fault_name OutOfRange = codes "OutOfRange"
fault_name BadTransform = codes "BadTransform"
fault_name (BadRow line) = codes "BadRow"
fault_name (BadNumber line) = codes "BadNumber"
fault_name (BadRule key) = codes "BadRule"
fault_name TooManyLines = codes "TooManyLines"
fault_name BadRect = codes "BadRect"
fault_name BadWindows = codes "BadWindows"
fault_name (BadWindowsIn number count) = codes "BadWindows"
fault_name BadPitch = codes "BadPitch"
fault_name TooManyPlaces = codes "TooManyPlaces"
fault_name (TooManyPlacesIn number count) = codes "TooManyPlaces"
fault_name TooLong = codes "TooLong"
fault_name Device = codes "Device"
fault_name Memory = codes "Memory"
fault_name Unfinished = codes "Unfinished"
fault_name Mixed = codes "Mixed"
fault_name NotAFill = codes "NotAFill"
fault_name OtherDesign = codes "OtherDesign"
fault_name PlaceTwice = codes "PlaceTwice"
fault_name OtherRows = codes "OtherRows"

-- the part that has too much of something
abbrev pub in_part : ℕ → ℕ → List ℕ
in_part number count = codes " in part " ++ decimal number ++ codes " of " ++ decimal count ++ codes ", try more parts"

-- what follows the name: the record's number, the key, the record's first byte, or the part
abbrev pub fault_ending : Fault → List ℕ
fault_ending Truncated = []
fault_ending BadLength = []
fault_ending (Unexpected at) = codes " at " ++ decimal at
fault_ending DuplicateCell = []
fault_ending BadXY = []
fault_ending NotClosed = []
fault_ending BadArray = []
fault_ending NotManhattan = []
fault_ending RoundEnd = []
fault_ending OddWidth = []
fault_ending DoublesBack = []
fault_ending BadExtension = []
fault_ending NoTop = []
fault_ending MissingCell = []
fault_ending Cycle = []
fault_ending TooDeep = []
fault_ending TooManyShapes = []
fault_ending (TooManyShapesIn number count) = in_part number count
fault_ending OutOfRange = []
fault_ending BadTransform = []
fault_ending (BadRow line) = codes " line " ++ decimal line
fault_ending (BadNumber line) = codes " line " ++ decimal line
fault_ending (BadRule key) = codes " key " ++ key_name key
fault_ending TooManyLines = []
fault_ending BadRect = []
fault_ending BadWindows = []
fault_ending (BadWindowsIn number count) = in_part number count
fault_ending BadPitch = []
fault_ending TooManyPlaces = []
fault_ending (TooManyPlacesIn number count) = in_part number count
fault_ending TooLong = []
fault_ending Device = []
fault_ending Memory = []
fault_ending Unfinished = []
fault_ending Mixed = []
fault_ending NotAFill = []
fault_ending OtherDesign = []
fault_ending PlaceTwice = []
fault_ending OtherRows = []

-- the exit status of a fault's number: 6 for a book that a run mixed up, 5 for a fill that is not complete, 4 for a device fault,
-- 3 for want of memory, 2 for a refused input
abbrev pub fault_status : ℕ → ℕ
fault_status number = if number == 30 then 4 else if number == 31 then 3 else if number == 34 then 5 else if number == 35 then 6 else 2

-- the fault of a refused rule file
abbrev pub rule_fault : RuleError → Fault
rule_fault (rule.BadRow line) = BadRow line
rule_fault (rule.BadNumber line) = BadNumber line
rule_fault (rule.BadRule key) = BadRule key
rule_fault rule.BadRect = BadRect
rule_fault rule.BadWindows = BadWindows
rule_fault rule.BadPitch = BadPitch
rule_fault rule.TooManyPlaces = TooManyPlaces
rule_fault rule.Memory = Memory

-- the fault of a refused script
abbrev pub script_fault : ScriptError → Fault
script_fault (script.BadRow line) = BadRow line
script_fault (script.BadNumber line) = BadNumber line
script_fault script.TooManyLines = TooManyLines
script_fault script.Memory = Memory

-- the fault of a refused library
abbrev pub library_fault : LibraryError → Fault
library_fault library.Truncated = Truncated
library_fault library.BadLength = BadLength
library_fault (library.Unexpected at) = Unexpected at
library_fault library.DuplicateCell = DuplicateCell
library_fault library.BadXY = BadXY
library_fault library.NotClosed = NotClosed
library_fault library.Memory = Memory

-- the fault of a design that can't be flattened
abbrev pub flatten_fault : FlattenError → Fault
flatten_fault flatten.NoTop = NoTop
flatten_fault flatten.MissingCell = MissingCell
flatten_fault flatten.Cycle = Cycle
flatten_fault flatten.TooDeep = TooDeep
flatten_fault flatten.BadTransform = BadTransform
flatten_fault flatten.BadArray = BadArray
flatten_fault flatten.NotManhattan = NotManhattan
flatten_fault flatten.RoundEnd = RoundEnd
flatten_fault flatten.OddWidth = OddWidth
flatten_fault flatten.DoublesBack = DoublesBack
flatten_fault flatten.BadExtension = BadExtension
flatten_fault flatten.TooManyShapes = TooManyShapes
flatten_fault flatten.OutOfRange = OutOfRange
flatten_fault flatten.Memory = Memory

-- the fault of a part's library that can't be joined
abbrev pub part_fault : PartError → Fault
part_fault (parts.Library error) = library_fault error
part_fault parts.NotAFill = NotAFill
part_fault parts.TooManyPlaces = TooManyPlaces
part_fault parts.OtherDesign = OtherDesign
part_fault parts.PlaceTwice = PlaceTwice
part_fault parts.OtherRows = OtherRows
part_fault parts.Memory = Memory

-- the fault of an input that was not taken
abbrev pub input_fault : InputError → Fault
input_fault input.TooLong = TooLong
input_fault input.Device = Device
input_fault input.Memory = Memory

-- the fault of a run whose book took no event: a full history ends it without a complete fill
abbrev pub book_fault : BookError → RunFault
book_fault book.HistoryFull = run.Unfinished
book_fault book.Memory = run.Memory
