use Rattle.gds_grammar.specs.Grammar.{all_rules}
use Rattle.gds_grammar.proofs.Back.{run_is_library, library_runs}
use Rattle.gds_grammar.proofs.laws.machine_is_grammar.Goals as goal

pub returns : goal.returns
returns c = λ records v fit. (λ e. run_is_library all_rules records v fit e, λ h. library_runs all_rules records v h)
