use Rattle.gds_out.proofs.Listing.{each_place_once}
use Rattle.gds_out.proofs.laws.each_place_stands_once.Goals as goal

pub returns : goal.returns
returns c = each_place_once
