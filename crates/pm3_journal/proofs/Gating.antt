-- What a crash leaves, and what is there after a fault, while a body is put behind a gate.
use Rattle.std.proofs.Common.{◌≡◌, ◌+◌, ◌<◌, ◌≤◌, ℕ, List, [], ◌∷◌, ◌++◌, length, take, drop, Bool, true, false, if◌then◌else◌, Option, None, Some, option_map, refl, inl, inr, Result, Ok, Err, OnErr, sym, ◌∙◌, ap, arith, append_assoc, length-append}
use Rattle.std.proofs.lemmas.List.{drop_at, drop-drop, take_at, take-take, take-append-le, length-take-le}
use Rattle.pm3_disk.specs.Content.{IfTold, overwrite, Steps, TornWrite}
use Rattle.pm3_journal.specs.Gates.{entered, EntryLeaves, IsStaged}

-- an error that is handed on
pub on_err : {T E : Type 0} (r : Result T E) {P : Type 0} → P → OnErr r P
on_err (Ok x) p = tt
on_err (Err e) p = p

-- the body is put behind the gate
pub put_behind : (at : ℕ) (body old c : List ℕ) → TornWrite (at + 1) (length body) old c → EntryLeaves at body old c
put_behind at body old c torn = inl torn.before

-- the body stands behind the gate
module _ (at : ℕ) (body old : List ℕ) (within : at < length old) where
  front_length : length (take (at + 1) old) ≡ at + 1
  front_length = length-take-le (at + 1) old (omega arith)

  before_kept : take at (overwrite (at + 1) body old) ≡ take at old
  before_kept =
      let le : at ≤ length (take (at + 1) old) = omega (arith, front_length) in
      ap (take at) (append_assoc (take (at + 1) old) body _) ∙ take-append-le at (take (at + 1) old) _ le ∙ take-take at (at + 1) old (omega arith)

  behind_there : drop (at + 1) (overwrite (at + 1) body old) ≡ body ++ drop (at + 1 + length body) old
  behind_there = ap (drop (at + 1)) (append_assoc (take (at + 1) old) body _) ∙ drop_at (take (at + 1) old) (body ++ drop (at + 1 + length body) old) (at + 1) front_length

  long_enough : at < length (overwrite (at + 1) body old)
  long_enough = omega (arith, length-append (take (at + 1) old ++ body) (drop (at + 1 + length body) old), length-append (take (at + 1) old) body, front_length)

  staged : (c : List ℕ) → TornWrite at 1 (overwrite (at + 1) body old) c → IsStaged at body old c
  staged c torn = record { before = torn.before ∙ before_kept; within = omega (arith, torn.no_shorter, long_enough); behind = torn.behind ∙ behind_there }

  -- and the gate is opened
  pub staged_by : (mid c : List ℕ) → mid ≡ overwrite (at + 1) body old → TornWrite at 1 mid c → EntryLeaves at body old c
  staged_by mid c is torn = inr (staged c (rw is at torn))

-- what is entered behind a gate that was closed before is entered in the same bytes
pub entered_same : (at : ℕ) (body old : List ℕ) → at ≤ length old → entered at body (overwrite at (0 ∷ []) old) ≡ entered at body old
entered_same at body old within =
    let front : length (take at old) ≡ at = length-take-le at old within in
    let split : overwrite at (0 ∷ []) old ≡ take at old ++ (0 ∷ drop (at + 1) old) = append_assoc (take at old) (0 ∷ []) (drop (at + 1) old) in
    let before : take at (overwrite at (0 ∷ []) old) ≡ take at old = ap (take at) split ∙ take_at (take at old) (0 ∷ drop (at + 1) old) at front in
    let n : ℕ = length (1 ∷ body) in
    let place : at + length (1 ∷ body) ≡ at + 1 + length body = omega arith in
    let more : length body + (at + 1) ≡ at + 1 + length body = omega arith in
    let gate : drop (at + 1) (overwrite at (0 ∷ []) old) ≡ drop (at + 1) old = sym (drop-drop 1 at (overwrite at (0 ∷ []) old)) ∙ ap (drop 1) (ap (drop at) split ∙ drop_at (take at old) (0 ∷ drop (at + 1) old) at front) in
    let behind : drop (at + length (1 ∷ body)) (overwrite at (0 ∷ []) old) ≡ drop (at + length (1 ∷ body)) old =
    ap (λ (m : ℕ). drop m (overwrite at (0 ∷ []) old)) place ∙ sym (drop-drop (length body) (at + 1) (overwrite at (0 ∷ []) old)) ∙ ap (drop (length body)) gate
    ∙ drop-drop (length body) (at + 1) old ∙ ap (λ (m : ℕ). drop m old) (sym place) in
    ap (λ (l : List ℕ). (l ++ (1 ∷ body)) ++ drop (at + length (1 ∷ body)) (overwrite at (0 ∷ []) old)) before ∙ ap (λ (l : List ℕ). (take at old ++ (1 ∷ body)) ++ l) behind

-- what is there where the gate couldn't be opened
pub told_steps : (at : ℕ) (body : List ℕ) (a b c : Option (List ℕ)) → IfTold a (λ old. at < length old) → Steps (λ old mid. mid ≡ overwrite (at + 1) body old) a b → Steps (TornWrite at 1) b c → Steps (EntryLeaves at body) a c
told_steps at body a b c gate put opening = record {
  onward = λ old told.
      let mid = put.onward old told in
      let new = opening.onward mid.0 mid.1 in
      (new.0, new.1, staged_by at body old (gate old told) mid.0 new.0 mid.2 new.2);
  back = λ new told.
      let mid = opening.back new told in
      let old = put.back mid.0 mid.1 in
      (old.0, old.1, staged_by at body old.0 (gate old.0 old.1) mid.0 new old.2 mid.2);
}

-- a body entered behind a gate that was closed where it wasn't
pub entered_there : (at : ℕ) (body : List ℕ) (is_closed : Bool) (a b c : Option (List ℕ)) → IfTold a (λ old. at ≤ length old)
    → b ≡ (if is_closed then a else option_map (overwrite at (0 ∷ [])) a) → c ≡ option_map (entered at body) b → c ≡ option_map (entered at body) a
entered_there at body true a b c within closed is = is ∙ ap (option_map (entered at body)) closed
entered_there at body false None b c within closed is = is ∙ ap (option_map (entered at body)) closed
entered_there at body false (Some old) b c within closed is = is ∙ ap (option_map (entered at body)) closed ∙ ap Some (entered_same at body old (within old refl))
