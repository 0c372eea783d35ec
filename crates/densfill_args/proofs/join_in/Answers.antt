use Rattle.std.proofs.Common.{◌≡◌, ◌∙◌, ap, map}
use Rattle.densfill_args.specs.Grammar.{join}
use Rattle.densfill_args.proofs.join_in.Goals as goal
