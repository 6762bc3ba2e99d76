-- A step on a part, done on the part laid over a graph.
use Rattle.std.proofs.Common.{◌≡◌, ℕ, List, [], ◌∷◌, Bool, true, false, Option, None, Some, Ok, Err, is_ok, is_some, refl, sym, ap, subst, ◌∙◌}
use Rattle.std.specs.Prelude.{◌==◌, ◌||◌, slice_get}
use Rattle.std.specs.Option.{option_or}
use Rattle.std.specs.FinMap.{get}
use Rattle.pm3_types.specs.declared.places.Place.{Place}
use Rattle.pm3_types.specs.declared.places.Place.TheVariants as places
use Rattle.pm3_types.specs.Fields.{Fields}
use Rattle.pm3_types.specs.Record.{Record, blank}
use Rattle.pm3_types.specs.Places.{is_place, value_at, with_value}
use Rattle.pm3_types.specs.Graph.{Part, with_part}
use Rattle.pm3_types.proofs.Parts.{get-with_part, with_part-insert, with_part-part, same_part}
use Rattle.pm3_graph.specs.declared.operations.Op.{Op}
use Rattle.pm3_graph.specs.declared.operations.Op.TheVariants.{New, Word, SetWord, Reference, SetReference, TailRef, SetTailRef, Byte, SetByte, Root, SetRoot}
use Rattle.pm3_graph.specs.Operation.{Outcome, outcome, read_of, write_of, new_of, root_of, set_root_of, step_if, unless_taken, with_record, IsStep, IsRun, IsNewTo}
use Rattle.pm3_graph.specs.Frame.{FrameOfSteps, FrameOfRuns, AreNewTo}

-- an outcome on a part, laid over g
over : Part → Outcome → Outcome
over g (Ok step) = Ok (step.0, with_part g step.1)
over g (Err fault) = Err fault

or_none : {A : Type 0} (o : Option A) → option_or o None ≡ o
or_none None = refl
or_none (Some x) = refl

module _ (g f : Part) where
  there : (name : ℕ) (r : Record) → get f.records name ≡ Some r → get (with_part g f).records name ≡ Some r
  there name r is = get-with_part g f name ∙ ap (λ (o : Option Record). option_or o (get g.records name)) is

  put_over : (name : ℕ) (r : Record) → with_record (with_part g f) name r ≡ with_part g (with_record f name r)
  put_over name r =
      sym (same_part (with_part g (with_record f name r)) (with_record (with_part g f) name r) (with_part-insert g f name r f.roots) refl)

  step_over : (there : Bool) (answer : ℕ) (h k : Part) → h ≡ with_part g k → step_if there answer h ≡ over g (step_if there answer k)
  unfolding over
  step_over true answer h k is = ap (λ (p : Part). Ok (answer, p)) is
  step_over false answer h k is = refl

  module _ (catalog : List Fields) where
    read_over : (name : ℕ) (place : Place) (o : Option Record) → get f.records name ≡ o → is_ok (read_of catalog f name place o) ≡ true
        → read_of catalog (with_part g f) name place (get (with_part g f).records name) ≡ over g (read_of catalog f name place o)
    unfolding over
    read_over name place None is step = cc
    read_over name place (Some r) is step =
        ap (read_of catalog (with_part g f) name place) (there name r is)
        ∙ step_over (is_place catalog r place) (value_at r place) (with_part g f) f refl

    write_over : (name : ℕ) (place : Place) (v : ℕ) (o : Option Record) → get f.records name ≡ o → is_ok (write_of catalog f name place v o) ≡ true
        → write_of catalog (with_part g f) name place v (get (with_part g f).records name) ≡ over g (write_of catalog f name place v o)
    unfolding over
    write_over name place v None is step = cc
    write_over name place v (Some r) is step =
        ap (write_of catalog (with_part g f) name place v) (there name r is)
        ∙ step_over (is_place catalog r place) 0 _ _ (put_over name (with_value r place v))

    taken_over : (name ty tail : ℕ) (taken : Bool) (map : Option Fields)
        → unless_taken taken name (new_of (with_part g f) name ty tail map) ≡ over g (unless_taken taken name (new_of f name ty tail map))
    unfolding over
    taken_over name ty tail true map = refl
    taken_over name ty tail false None = refl
    taken_over name ty tail false (Some map) = ap (λ (p : Part). Ok (0, p)) (put_over name (blank map ty tail))

    root_over : (slot : ℕ) (o : Option (List ℕ)) → is_ok (root_of f slot o) ≡ true
        → root_of (with_part g f) slot (option_or o g.roots) ≡ over g (root_of f slot o)
    unfolding over
    root_over slot None step = cc
    root_over slot (Some names) step = refl

    set_root_over : (slot to : ℕ) (o : Option (List ℕ)) → is_ok (set_root_of f slot to o) ≡ true
        → set_root_of (with_part g f) slot to (option_or o g.roots) ≡ over g (set_root_of f slot to o)
    unfolding over
    set_root_over slot to None step = cc
    set_root_over slot to (Some names) step = refl

    outcome_over : (op : Op) → IsNewTo g op → is_ok (outcome catalog op f) ≡ true → outcome catalog op (with_part g f) ≡ over g (outcome catalog op f)
    outcome_over (New name ty tail) new step =
        ap (λ (o : Option Record). unless_taken (name == 0 || is_some o) name (new_of (with_part g f) name ty tail (slice_get catalog ty)))
        (get-with_part g f name ∙ ap (option_or (get f.records name)) new ∙ or_none (get f.records name))
        ∙ taken_over name ty tail (name == 0 || is_some (get f.records name)) (slice_get catalog ty)
    outcome_over (Word name f') new step = read_over name (places.Word f') _ refl step
    outcome_over (SetWord name f' v) new step = write_over name (places.Word f') v _ refl step
    outcome_over (Reference name f') new step = read_over name (places.Reference f') _ refl step
    outcome_over (SetReference name f' to) new step = write_over name (places.Reference f') to _ refl step
    outcome_over (TailRef name k) new step = read_over name (places.TailRef k) _ refl step
    outcome_over (SetTailRef name k to) new step = write_over name (places.TailRef k) to _ refl step
    outcome_over (Byte name k) new step = read_over name (places.Byte k) _ refl step
    outcome_over (SetByte name k v) new step = write_over name (places.Byte k) v _ refl step
    outcome_over (Root slot) new step = root_over slot f.roots step
    outcome_over (SetRoot slot to) new step = set_root_over slot to f.roots step

-- a step on a part is one on the part laid over any g that lacks a new name
step_over_any : (catalog : List Fields) (op : Op) (g f h : Part) (answer : ℕ)
    → IsNewTo g op → IsStep catalog op f answer h → IsStep catalog op (with_part g f) answer (with_part g h)
unfolding over
step_over_any catalog op g f h answer new step =
    outcome_over g f catalog op new (ap is_ok step) ∙ ap (over g) step

run_over_any : (catalog : List Fields) (ops : List (Op × ℕ)) (g f h : Part)
    → AreNewTo g ops → IsRun catalog ops f h → IsRun catalog ops (with_part g f) (with_part g h)
run_over_any catalog [] g f h new run = ap (with_part g) run
run_over_any catalog (e ∷ es) g f h new run =
    (with_part g run.0, step_over_any catalog e.0 g f run.0 e.1 new.0 run.1, run_over_any catalog es g run.0 h new.1 run.2)

pub frame_of_steps : FrameOfSteps
frame_of_steps catalog op f g h answer part new step =
    subst (λ (p : Part). IsStep catalog op p answer (with_part g h)) (with_part-part f g part) (step_over_any catalog op g f h answer new step)

pub frame_of_runs : FrameOfRuns
frame_of_runs catalog ops f g h part new run =
    subst (λ (p : Part). IsRun catalog ops p (with_part g h)) (with_part-part f g part) (run_over_any catalog ops g f h new run)
