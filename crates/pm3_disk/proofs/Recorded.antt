-- What the clauses of a disk say of a disk in memory, whose calls are recorded.
use Rattle.std.proofs.Common.{◌≡◌, inl, inr, ⊎_elim, ℕ, ◌+◌, ◌≤◌, Bool, true, false, List, ◌∷◌, length, Result, Ok, Err, OnErr, refl, sym, subst, arith}
use Rattle.pm3_disk.specs.Content.{Steps, TornCut, TornWrite, Unchanged}
use Rattle.pm3_disk.specs.Moments.{Passes, After}
use Rattle.pm3_disk.specs.Reading.{leaves_present}
use Rattle.pm3_disk.specs.Recording.{Recording, content_of, moment_of, may_leave_of, IsRecorded}
use Rattle.pm3_disk.specs.Replay.{content_after, MayLeave, MayLeaveAt}
use Rattle.pm3_disk.specs.declared.call.Call.{Call}
use Rattle.pm3_disk.specs.declared.call.Call.TheVariants.{Looked, Wrote, Shortened, Synced}
use Rattle.pm3_disk.proofs.Contents.{steps_told}
use Rattle.pm3_disk.proofs.Passing.{no_call}
use Rattle.pm3_disk.proofs.Tearing.{torn_by_part, torn_not, cut_by, cut_not}

-- the moments of one call more
passes_call : (began : List ℕ) (calls : List Call) (call : Call) (P : List ℕ → Type 0) → ((left : List ℕ) → MayLeave began (call ∷ calls) left → P left) → Passes (length calls) (length (call ∷ calls)) (MayLeaveAt began calls) (MayLeaveAt began (call ∷ calls)) P
passes_call began calls call P has = record {
  later = omega arith;
  stays = λ t left le is. inl (le, is);
  no_other = λ t left le is. ⊎_elim (λ old. old.1) (λ new. absurd (omega (arith, le, new.0))) is;
  since = λ t left lt le is. ⊎_elim (λ old. absurd (omega (arith, lt, old.0))) (λ new. has left new.1) is;
}

-- the moments of a call, whatever it answers
pub passes_recorded : {T E : Type 0} (well badly : Call) (old new : Recording) (result : Result T E) (P : List ℕ → Type 0) → IsRecorded well badly old new result → ((left : List ℕ) → MayLeave old.began (well ∷ old.calls) left → P left) → ((left : List ℕ) → MayLeave old.began (badly ∷ old.calls) left → P left) → Passes (moment_of old) (moment_of new) (may_leave_of old) (may_leave_of new) P
passes_recorded well badly old new (Ok x) P (free, is) has_well has_badly =
    subst (λ (r : Recording). Passes (moment_of old) (moment_of r) (may_leave_of old) (may_leave_of r) P) (sym is) (passes_call old.began old.calls well P has_well)
passes_recorded well badly old new (Err e) P (inl (listed, is)) has_well has_badly =
    subst (λ (r : Recording). Passes (moment_of old) (moment_of r) (may_leave_of old) (may_leave_of r) P) (sym is) (passes_call old.began old.calls badly P has_badly)
passes_recorded well badly old new (Err e) P (inr is) has_well has_badly =
    subst (λ (r : Recording). Passes (moment_of old) (moment_of r) (may_leave_of old) (may_leave_of r) P) (sym is) (no_call P)

-- a call is one moment at most
pub single_call : {T E : Type 0} (well badly : Call) (old new : Recording) (result : Result T E) → IsRecorded well badly old new result → moment_of new ≤ moment_of old + 1
single_call well badly old new (Ok x) (free, is) = subst (λ (r : Recording). moment_of r ≤ moment_of old + 1) (sym is) (omega arith)
single_call well badly old new (Err e) (inl (listed, is)) = subst (λ (r : Recording). moment_of r ≤ moment_of old + 1) (sym is) (omega arith)
single_call well badly old new (Err e) (inr is) = subst (λ (r : Recording). moment_of r ≤ moment_of old + 1) (sym is) (omega arith)

looked_after : (old : Recording) (left : List ℕ) → MayLeave old.began (Looked ∷ old.calls) left → After (may_leave_of old (moment_of old)) Unchanged left
looked_after old left is = (left, leaves_present old.began old.calls left is, refl)

synced_after : (old : Recording) (left : List ℕ) → MayLeave old.began (Synced ∷ old.calls) left → After (may_leave_of old (moment_of old)) Unchanged left
synced_after old left is =
    let same : left ≡ content_after old.began old.calls = ⊎_elim (λ e. e) (λ e. e) is in
    (left, leaves_present old.began old.calls left (inl same), refl)

wrote_after : (at : ℕ) (bytes : List ℕ) (whole : Bool) (old : Recording) → at ≤ length (content_after old.began old.calls) → (left : List ℕ) → MayLeave old.began (Wrote at bytes whole ∷ old.calls) left → After (may_leave_of old (moment_of old)) (TornWrite at (length bytes)) left
wrote_after at bytes whole old within left (inl is) =
    let here = content_after old.began old.calls in
    (here, leaves_present old.began old.calls here (inl refl), subst (TornWrite at (length bytes) here) (sym is) (torn_by_part at bytes whole here within))
wrote_after at bytes whole old within left (inr (earlier, was, torn)) = (earlier, leaves_present old.began old.calls earlier (inr was), torn)

shortened_after : (len : ℕ) (old : Recording) (left : List ℕ) → MayLeave old.began (Shortened len ∷ old.calls) left → After (may_leave_of old (moment_of old)) (TornCut len) left
shortened_after len old left (inl is) =
    let here = content_after old.began old.calls in
    (here, leaves_present old.began old.calls here (inl refl), subst (TornCut len here) (sym is) (cut_by len here))
shortened_after len old left (inr (earlier, was, torn)) = (earlier, leaves_present old.began old.calls earlier (inr was), torn)

looked_cut : (len : ℕ) (old : Recording) (left : List ℕ) → MayLeave old.began (Looked ∷ old.calls) left → After (may_leave_of old (moment_of old)) (TornCut len) left
looked_cut len old left is = (left, leaves_present old.began old.calls left is, cut_not len left)

-- the crash clause of a call that changes no byte
pub passes_look : {T E : Type 0} (old new : Recording) (result : Result T E) → IsRecorded Looked Looked old new result → Passes (moment_of old) (moment_of new) (may_leave_of old) (may_leave_of new) (After (may_leave_of old (moment_of old)) Unchanged)
passes_look old new result is = passes_recorded Looked Looked old new result (After (may_leave_of old (moment_of old)) Unchanged) is (looked_after old) (looked_after old)

-- of a sync
pub passes_sync : {T E : Type 0} (old new : Recording) (result : Result T E) → IsRecorded Synced Looked old new result → Passes (moment_of old) (moment_of new) (may_leave_of old) (may_leave_of new) (After (may_leave_of old (moment_of old)) Unchanged)
passes_sync old new result is = passes_recorded Synced Looked old new result (After (may_leave_of old (moment_of old)) Unchanged) is (synced_after old) (looked_after old)

-- of a write
pub passes_write : {T E : Type 0} (at : ℕ) (bytes : List ℕ) (old new : Recording) (result : Result T E) → at ≤ length (content_after old.began old.calls) → IsRecorded (Wrote at bytes true) (Wrote at bytes false) old new result → Passes (moment_of old) (moment_of new) (may_leave_of old) (may_leave_of new) (After (may_leave_of old (moment_of old)) (TornWrite at (length bytes)))
passes_write at bytes old new result within is =
    passes_recorded (Wrote at bytes true) (Wrote at bytes false) old new result (After (may_leave_of old (moment_of old)) (TornWrite at (length bytes))) is (wrote_after at bytes true old within) (wrote_after at bytes false old within)

-- of a cut
pub passes_cut : {T E : Type 0} (len : ℕ) (old new : Recording) (result : Result T E) → IsRecorded (Shortened len) Looked old new result → Passes (moment_of old) (moment_of new) (may_leave_of old) (may_leave_of new) (After (may_leave_of old (moment_of old)) (TornCut len))
passes_cut len old new result is =
    passes_recorded (Shortened len) Looked old new result (After (may_leave_of old (moment_of old)) (TornCut len)) is (shortened_after len old) (looked_cut len old)

-- a write that failed has put half of its bytes, or none
pub torn_write : {T E : Type 0} (at : ℕ) (bytes : List ℕ) (old new : Recording) (result : Result T E) → at ≤ length (content_after old.began old.calls) → IsRecorded (Wrote at bytes true) (Wrote at bytes false) old new result → OnErr result (Steps (TornWrite at (length bytes)) (content_of old) (content_of new))
torn_write at bytes old new (Ok x) within is = tt
torn_write at bytes old new (Err e) within (inl (listed, is)) =
    let here = content_after old.began old.calls in
    subst (λ (r : Recording). Steps (TornWrite at (length bytes)) (content_of old) (content_of r)) (sym is) (steps_told (TornWrite at (length bytes)) here (content_after old.began (Wrote at bytes false ∷ old.calls)) (torn_by_part at bytes false here within))
torn_write at bytes old new (Err e) within (inr is) =
    let here = content_after old.began old.calls in
    subst (λ (r : Recording). Steps (TornWrite at (length bytes)) (content_of old) (content_of r)) (sym is) (steps_told (TornWrite at (length bytes)) here here (torn_not at (length bytes) here))
