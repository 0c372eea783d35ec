-- Where the program gave up and why, and the line and the exit status that tell of it.
use Rattle.std.specs.Prelude.{ℕ, ◌==◌, ◌||◌, List, [], ◌++◌, map, Option, Some, None, codes, decimal, nat_lt, if◌then◌else◌}
use Rattle.densfill_engine.specs.Faults.{fault_ending, fault_name, fault_number, fault_status, flatten_fault, input_fault, library_fault, part_fault, rule_fault, script_fault}
use Rattle.densfill_engine.specs.declared.fault.Fault.{Fault}
use Rattle.densfill_engine.specs.declared.fault.Fault.TheVariants.{BadWindowsIn, Device, Memory, Mixed, TooManyPlacesIn, TooManyShapesIn, Unfinished}
use Rattle.fill_parts.specs.declared.part_rules.PartRulesError.TheVariants as parts
use Rattle.densfill_engine.specs.declared.refusal.DesignError.TheVariants as design
use Rattle.densfill_engine.specs.declared.refusal.InputFault.TheVariants.{Unread, Refused}
use Rattle.densfill_engine.specs.declared.refusal.RunFault.TheVariants as run
use Rattle.densfill_engine.specs.declared.refusal.Refusal.{Refusal}
use Rattle.densfill_engine.specs.declared.refusal.Refusal.TheVariants.{Rules, TooLarge, Design, Script, Part, Run, Out, Report}

-- the part as the line names it
abbrev pub part_name : Refusal → List ℕ
part_name (Rules fault) = codes "rules"
part_name (TooLarge fault number count) = codes "rules"
part_name (Design fault) = codes "design"
part_name (Script fault) = codes "script"
part_name (Part number fault) = codes "part " ++ decimal number
part_name (Run fault) = codes "run"
part_name Out = codes "out"
part_name Report = codes "report"

-- what is the matter, as a row of the table of faults
abbrev pub fault_of : Refusal → Fault
fault_of (Rules (Unread error)) = input_fault error
fault_of (Rules (Refused error)) = rule_fault error
fault_of (TooLarge parts.Windows number count) = BadWindowsIn number count
fault_of (TooLarge parts.Places number count) = TooManyPlacesIn number count
fault_of (TooLarge parts.Memory number count) = Memory
fault_of (Design (Unread error)) = input_fault error
fault_of (Design (Refused (design.Library error))) = library_fault error
fault_of (Design (Refused (design.Flatten error))) = flatten_fault error
fault_of (Design (Refused (design.Crowded number count))) = TooManyShapesIn number count
fault_of (Script (Unread error)) = input_fault error
fault_of (Script (Refused error)) = script_fault error
fault_of (Part number (Unread error)) = input_fault error
fault_of (Part number (Refused error)) = part_fault error
fault_of (Run run.Memory) = Memory
fault_of (Run run.Unfinished) = Unfinished
fault_of (Run run.Mixed) = Mixed
fault_of Out = Device
fault_of Report = Device

abbrev pub refusal_status : Refusal → ℕ
refusal_status refusal = fault_status (fault_number (fault_of refusal))

-- what tells of the refusal
abbrev pub refusal_words : Refusal → List ℕ
refusal_words refusal =
    let fault = fault_of refusal in
    codes "densfill: " ++ part_name refusal ++ codes ": " ++ decimal (fault_number fault) ++ codes " " ++ fault_name fault ++ fault_ending fault

-- a byte of a path as the line shows it: a question mark in place of a control character, so that a fault is one line
abbrev pub shown_byte : ℕ → ℕ
shown_byte byte = if nat_lt byte 32 || (byte == 127) then 63 else byte

-- the path of a part's library behind it, if there is one
abbrev pub path_ending : Option (List ℕ) → List ℕ
path_ending None = []
path_ending (Some path) = codes " in " ++ map shown_byte path

-- the line that tells of the refusal
abbrev pub refusal_text : Refusal → Option (List ℕ) → List ℕ
refusal_text refusal path = refusal_words refusal ++ path_ending path ++ codes "\n"
