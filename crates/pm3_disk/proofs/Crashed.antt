-- What a crash is made to leave is what one at its moment may leave.
use Rattle.std.proofs.Common.{◌≡◌, inl, inr, ⊎_elim, ℕ, suc, ◌-◌, ◌<◌, ◌≤◌, Bool, true, false, cond, nat_le, List, [], ◌∷◌, ◌++◌, length, take, drop, reverse, replicate, refl, sym, ◌∙◌, ap, subst, arith}
use Rattle.std.proofs.lemmas.Bool.{cases_lt, leb-true}
use Rattle.std.proofs.lemmas.Grind.{common_steps}
use Rattle.std.proofs.lemmas.List.{reverse-append, reverse-reverse, length-replicate, take_at, take-append-drop}
use Rattle.std.proofs.Math.Seq.{drop-nil}
use Rattle.pm3_disk.specs.Content.{TornWrite}
use Rattle.pm3_disk.specs.Crash.{fate_of, meets, left_after, writes_after, oldest}
use Rattle.pm3_disk.specs.Replay.{IsTorn, MayLeave, MayLeaveAt}
use Rattle.pm3_disk.specs.declared.call.Call.{Call}
use Rattle.pm3_disk.specs.declared.call.Call.TheVariants.{Looked, Wrote, Shortened, Synced}
use Rattle.pm3_disk.specs.declared.fate.Fate.{Fate}
use Rattle.pm3_disk.specs.declared.fate.Fate.TheVariants.{Written, Missing, Half, Ones}
use Rattle.pm3_disk.proofs.Tearing.{torn_by, torn_by_part, torn_not, cut_by}

met_is_torn : (fate : Fate) (at : ℕ) (bytes : List ℕ) (whole : Bool) (left : List ℕ) → at ≤ length left → TornWrite at (length bytes) left (meets fate at bytes whole left)
met_is_torn Written at bytes whole left within = torn_by_part at bytes whole left within
met_is_torn Missing at bytes whole left within = torn_not at (length bytes) left
met_is_torn Half at bytes whole left within = torn_by_part at bytes false left within
met_is_torn Ones at bytes whole left within =
    let size : length (replicate (length bytes) 1) ≤ length bytes = omega (arith, length-replicate {A = ℕ} (length bytes) 1) in
    torn_by at (length bytes) (replicate (length bytes) 1) left within size

left_or_torn : (fate : Fate) (at : ℕ) (bytes : List ℕ) (whole : Bool) (left : List ℕ) (within : Bool) → nat_le at (length left) ≡ within → TornWrite at (length bytes) left (cond within (meets fate at bytes whole left) left)
left_or_torn fate at bytes whole left true is = met_is_torn fate at bytes whole left (leb-true at (length left) is)
left_or_torn fate at bytes whole left false is = torn_not at (length bytes) left

is_torn : (choice : ℕ) (began : List ℕ) (calls : List Call) → IsTorn began calls (left_after choice began calls)
is_torn choice began [] = refl
is_torn choice began (Looked ∷ calls) = is_torn choice began calls
is_torn choice began (Wrote at bytes whole ∷ calls) =
    let here = left_after choice began calls in
    (here, is_torn choice began calls, left_or_torn (fate_of choice (writes_after calls)) at bytes whole here (nat_le at (length here)) refl)
is_torn choice began (Shortened len ∷ calls) =
    let here = left_after choice began calls in
    (here, is_torn choice began calls, cut_by len here)
is_torn choice began (Synced ∷ calls) = refl

at_moment : (began : List ℕ) (calls : List Call) (moment : ℕ) (left : List ℕ) → moment ≤ length calls → MayLeave began (oldest moment calls) left → MayLeaveAt began calls moment left
at_moment began [] moment left few is = subst (λ (l : List Call). MayLeave began l left) (drop-nil (0 - moment)) is
at_moment began (call ∷ calls) moment left few is = ⊎_elim newest (older (at_moment began calls moment left)) (cases_lt (length calls) moment)
  where
    newest : length calls < moment → MayLeaveAt began (call ∷ calls) moment left
    newest lt =
        let none : length (call ∷ calls) - moment ≡ 0 = omega (arith, lt) in
        inr (lt, subst (λ (n : ℕ). MayLeave began (drop n (call ∷ calls)) left) none is)

    older : (moment ≤ length calls → MayLeave began (oldest moment calls) left → MayLeaveAt began calls moment left) → moment ≤ length calls → MayLeaveAt began (call ∷ calls) moment left
    older before le =
        let more : length (call ∷ calls) - moment ≡ suc (length calls - moment) = omega (arith, le) in
        inl (le, before le (subst (λ (n : ℕ). MayLeave began (drop n (call ∷ calls)) left) more is))

-- a crash after the first so many calls
pub is_left : (choice : ℕ) (began : List ℕ) (calls : List Call) (moment : ℕ) → moment ≤ length calls → MayLeaveAt began calls moment (left_after choice began (oldest moment calls))
is_left choice began calls moment few = at_moment began calls moment (left_after choice began (oldest moment calls)) few (inr (is_torn choice began (oldest moment calls)))

-- the first so many calls, in both orders
pub reverse_oldest : (count : ℕ) (calls : List Call) → count ≤ length calls → reverse (take count (reverse calls)) ≡ oldest count calls
reverse_oldest count calls few = ap (λ (l : List Call). reverse (take count l)) parts ∙ ap reverse (take_at (reverse last) (reverse rest) count size) ∙ reverse-reverse last
  where
    rest : List Call
    rest = take (length calls - count) calls

    last : List Call
    last = oldest count calls

    parts : reverse calls ≡ reverse last ++ reverse rest
    parts = ap reverse (sym (take-append-drop (length calls - count) calls)) ∙ reverse-append rest last

    size : length (reverse last) ≡ count
    size = grind (arith, common_steps)
