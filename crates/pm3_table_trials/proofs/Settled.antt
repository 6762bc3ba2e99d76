-- A page that was settled as held is known to be used.
use Rattle.std.proofs.Common.{◌≡◌, ℕ, ◌==◌, ◌||◌, nat_lt, Bool, true, false, List, refl}
use Rattle.pm3_table.specs.declared.view.Deed.{Deed}
use Rattle.pm3_table.specs.declared.view.Told.{Told}
use Rattle.pm3_table.specs.declared.view.View.{View}
use Rattle.pm3_table.specs.Entries.{writes}
use Rattle.pm3_table.specs.Histories.{some_has}
use Rattle.pm3_table.specs.Holds.{is_in}
use Rattle.pm3_table.specs.Ops.{settled_held}
use Rattle.pm3_table.specs.Telling.{knows_used}
use Rattle.pm3_table.proofs.Known.{used_steady}
use Rattle.pm3_table.proofs.RowSteps.{equal_test}

one_of : (a b c d : Bool) → b ≡ true → (a || ((b || c) || d)) ≡ true
one_of true b c d is = refl
one_of false true c d is = refl
one_of false false c d is = absurd (cc)

pub held_used : (told : Told) (v : View) (page : ℕ) (log : List Deed) → knows_used told (settled_held v page log) page ≡ true
held_used told v page log = used_steady told (settled_held v page log) page
    (one_of (nat_lt page told.frontier) (page == page) (is_in page v.steady) (some_has writes v.seen page) (equal_test page page refl))
