use Rattle.gds_record.proofs.Spellings.{one_front}
use Rattle.gds_record.proofs.records.no_spelling_begins_another.Goals as goal

pub returns : goal.returns
returns c = λ r s x y hr hs e. one_front r s x y hr hs e
