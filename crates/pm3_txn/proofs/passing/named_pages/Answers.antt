use Rattle.std.proofs.Common.{◌∙◌, refl, sym, ap, arith}
use Rattle.std.proofs.lemmas.Bool.{false≢true}
use Rattle.std.specs.FinSet as set
use Rattle.std.specs.FinSet.{contains-empty}
use Rattle.std.specs.Ordering.{nat_cmp}
use Rattle.pm3_txn.proofs.passing.named_pages.Goals as goal

pub loop-j-init : goal.loop-j-init
loop-j-init g c = record {
  only = record { rest = refl; words = λ q. refl; stands = λ q. refl };
  kept = c.requires.of;
  named = λ p. (
    (λ is. absurd (false≢true (sym (ap (λ (s : set.FinSet nat_cmp). set.contains s p) c.new-named.ensures ∙ contains-empty nat_cmp p) ∙ is))),
    λ none. absurd (let low = none.1.1 in omega (arith, low)),
  );
}
