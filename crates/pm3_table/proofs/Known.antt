-- What a view knows of pages that are in a space that it holds.
use Rattle.std.proofs.Common.{◌≡◌, ℕ, zero, suc, ◌+◌, ◌<◌, ◌==◌, ◌&&◌, ◌||◌, Bool, true, false, List, [], ◌∷◌, Option, None, Some, refl, ◌∙◌, subst, arith}
use mathlib.Core.Logic.{dite}
use native.Mathlib.Decide.{ℕ_discrete}
use Rattle.std.specs.FinMap.{contains_key}
use Rattle.pm3_types.specs.Fields.{Fields}
use Rattle.pm3_history.specs.Entry.{Done, Pass}
use Rattle.pm3_table.specs.declared.view.Deed.{Deed}
use Rattle.pm3_table.specs.declared.view.Told.{Told}
use Rattle.pm3_table.specs.declared.view.View.{View}
use Rattle.pm3_table.specs.Entries.{images_refer, keeps_in, kept_by, pass_refers, refers}
use Rattle.pm3_table.specs.Histories.{some_has}
use Rattle.pm3_table.specs.Holds.{holds_of, spans_of}
use Rattle.pm3_table.specs.Telling.{names_page, is_steady, HasInSpace, in_some_space, knows_used}
use Rattle.pm3_table.specs.Ops.{settled_in}
use Rattle.pm3_table.specs.Words.{space_unit}
use Rattle.pm3_table.proofs.Put.{put_here}
use Rattle.pm3_table.proofs.RowSteps.{equal_test}

or_true : (a b : Bool) → b ≡ true → (a || b) ≡ true
or_true true b is = refl
or_true false b is = is

true_or : (a b : Bool) → a ≡ true → (a || b) ≡ true
true_or true b is = refl
true_or false b is = absurd (cc)

both : (a b : Bool) → a ≡ true → b ≡ true → (a && b) ≡ true
both true b x y = y
both false b x y = x

some_space : (told : Told) (v : View) (n j p : ℕ) → j < n → holds_of v.holds (space_unit told.pages j) ≡ true
    → spans_of v.spans (space_unit told.pages j) p ≡ true → in_some_space told v n p ≡ true
some_space told v zero j p low holds spread = absurd (omega arith)
some_space told v (suc n) j p low holds spread = dite (ℕ_discrete j n)
    (λ e. true_or (holds_of v.holds (space_unit told.pages n) && spans_of v.spans (space_unit told.pages n) p) (in_some_space told v n p)
    (subst (λ (k : ℕ). (holds_of v.holds (space_unit told.pages k) && spans_of v.spans (space_unit told.pages k) p) ≡ true) e
    (both (holds_of v.holds (space_unit told.pages j)) (spans_of v.spans (space_unit told.pages j) p) holds spread)))
    (λ o. or_true (holds_of v.holds (space_unit told.pages n) && spans_of v.spans (space_unit told.pages n) p) (in_some_space told v n p)
    (some_space told v n j p (omega (arith, low, o)) holds spread))

-- a page that was settled in a space that the view holds is in that space
pub settled_has : (told : Told) (v : View) (j p : ℕ) (log : List Deed) → j < 32 → holds_of v.holds (space_unit told.pages j) ≡ true
    → HasInSpace told (settled_in v p (space_unit told.pages j) log) j p
settled_has told v j p log low holds = (
  low,
  holds,
  put_here (spans_of v.spans (space_unit told.pages j)) p (space_unit told.pages j + 1 == space_unit told.pages j + 1)
      ∙ equal_test (space_unit told.pages j + 1) (space_unit told.pages j + 1) refl,
)

-- a page in a space that the view holds is known to be used
pub used_in_space : (told : Told) (v : View) (j p : ℕ) → HasInSpace told v j p → knows_used told v p ≡ true
unfolding knows_used
used_in_space told v j p has =
    let some : (in_some_space told v 32 p || some_has (names_page told) v.seen p) ≡ true =
    true_or (in_some_space told v 32 p) (some_has (names_page told) v.seen p) (some_space told v 32 j p has.0 has.1 has.2) in
    or_true (is_steady told v p) (in_some_space told v 32 p || some_has (names_page told) v.seen p) some

-- so is one that is known to be persistent
pub used_steady : (told : Told) (v : View) (p : ℕ) → is_steady told v p ≡ true → knows_used told v p ≡ true
unfolding knows_used
used_steady told v p is = true_or (is_steady told v p) (in_some_space told v 32 p || some_has (names_page told) v.seen p) is

-- and one that an image of the history names that it has seen
pub used_seen : (told : Told) (v : View) (p : ℕ) → some_has (names_page told) v.seen p ≡ true → knows_used told v p ≡ true
unfolding knows_used
used_seen told v p is =
    or_true (is_steady told v p) (in_some_space told v 32 p || some_has (names_page told) v.seen p)
    (or_true (in_some_space told v 32 p) (some_has (names_page told) v.seen p) is)

either : (a b c d : Bool) → (a ≡ true → c ≡ true) → (b ≡ true → d ≡ true) → (a || b) ≡ true → (c || d) ≡ true
either true b c d f g is = true_or c d (f refl)
either false b c d f g is = or_true c d (g is)

right_of : (a b : Bool) → (a && b) ≡ true → b ≡ true
right_of true b is = is
right_of false b is = absurd (cc)

kept_refers : (catalog : List Fields) (j p : ℕ) (pass : Option Pass) → kept_by j pass p ≡ true → pass_refers catalog pass p ≡ true
kept_refers catalog j p None is = absurd (cc)
kept_refers catalog j p (Some x) is = true_or (contains_key x.after p) _ (right_of (x.space == j) (contains_key x.after p) is)

-- a page that a pass leaves in a space is named by its images
pub kept_named : (told : Told) (j p : ℕ) (h : List Done) → some_has (keeps_in j) h p ≡ true → some_has (names_page told) h p ≡ true
kept_named told j p [] is = is
kept_named told j p (e ∷ es) is =
    either (keeps_in j e p) (some_has (keeps_in j) es p) (refers told.opening.catalog e p) (some_has (names_page told) es p)
    (λ kept. or_true (images_refer told.opening.catalog e.written p) (pass_refers told.opening.catalog e.pass p) (kept_refers told.opening.catalog j p e.pass kept)) (kept_named told j p es) is
