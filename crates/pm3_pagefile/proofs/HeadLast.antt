-- Page 0, written behind the other pages.
use Rattle.std.proofs.Common.{◌≡◌, ℕ, Bool, true, false, cond, eqb, List, Option, Some, None, unwrap_or, refl, sym, subst, arith}
use Rattle.pm3_disk.specs.Content.{Steps}
use Rattle.pm3_disk.specs.Devices.{Leaves, LeavesOnly, Takes}
use Rattle.pm3_disk.specs.declared.outside.Disk.{Ghosts}
use Rattle.pm3_disk.proofs.Contents.{steps_both}
use Rattle.pm3_disk.proofs.Passing.{weaker, then_call}
use Rattle.pm3_page.specs.declared.marks.Marks.{Marks}
use Rattle.pm3_page.specs.Head.{head_page}
use Rattle.pm3_pagefile.specs.PageBytes.{ChangesOnly, Given, IsReplaced}
use Rattle.pm3_pagefile.specs.Writing.{head_given, HeadComesLast, only}
use Rattle.pm3_pagefile.proofs.Replacing.{IsJoin, replaced_both}

chosen : (b : Bool) (head : List ℕ) (given : Option (List ℕ)) (x : List ℕ) → unwrap_or (cond b (Some head) given) x ≡ unwrap_or (cond b (Some head) None) (unwrap_or given x)
chosen true head given x = refl
chosen false head given x = refl

joins : (marks : Marks) (given : Given) → IsJoin given (only 0 (head_page marks)) (head_given marks given)
joins marks given = record { each = λ page x. chosen (eqb page 0) (head_page marks) (given page) x }

-- the other pages were replaced, and then page 0
pub head_replaced : (marks : Marks) (given : Given) (bytes : List ℕ) (a b c d : Option (List ℕ)) → bytes ≡ head_page marks → Steps (IsReplaced given) a b
    → Steps (IsReplaced (only 0 bytes)) b c → d ≡ c → Steps (IsReplaced (head_given marks given)) a d
head_replaced marks given bytes a b c d is one two same =
    subst (Steps (IsReplaced (head_given marks given)) a) (sym same)
    (steps_both (IsReplaced given) (IsReplaced (only 0 (head_page marks))) (IsReplaced (head_given marks given)) a b c one
    (subst (λ (l : List ℕ). Steps (IsReplaced (only 0 l)) b c) is two)
    (λ x y z first second. replaced_both given (only 0 (head_page marks)) (head_given marks given) x y z (joins marks given) first second))

module _ {D R : Type 0} (g : Ghosts D R) (given : Given) where
  -- page 0 has its bytes still
  pub not_yet : {a b : D} → Leaves g a b (ChangesOnly given) → HeadComesLast g a b given
  not_yet {a} {b} leaves = record {
    turn = g.moment b;
    until = λ t left lt le is. leaves.since t left lt le is;
    stand = λ lt bytes told. absurd (omega (arith, lt));
  }

  -- page 0 was written where the others stood
  pub turned : {a b c : D} {Q : List ℕ → Type 0} → Leaves g a b (ChangesOnly given) → LeavesOnly g b c Q → Takes g a b (IsReplaced given)
      → ((bytes : List ℕ) → g.content b ≡ Some bytes → g.may_leave b (g.moment b) bytes) → HeadComesLast g a c given
  turned {a} {b} {c} first later steps reads = record {
    turn = g.moment b;
    until = λ t left lt le is. first.since t left lt le (later.no_other t left le is);
    stand = λ lt bytes told.
        let end = steps.onward bytes told in
        (end.0, later.stays (g.moment b) end.0 (omega arith) (reads end.0 end.1), end.2);
  }

  -- two calls, one after the other, of which no more is said
  abbrev pub Any : List ℕ → Type 0
  Any left = Unit {0}

  pub both_calls : {a b c : D} {P Q : List ℕ → Type 0} → LeavesOnly g a b P → LeavesOnly g b c Q → LeavesOnly g a c Any
  both_calls {a} {b} {c} {P} {Q} one two = then_call {P = Any} {Q = Q} (weaker {P = P} Any one (λ c has. tt)) two (λ c has. tt)
