-- Runs of operations on a whole graph.
use Rattle.std.proofs.Common.{◌≡◌, ◌∙◌, ◌++◌, ℕ, Bool, true, false, List, [], ◌∷◌, Option, Some, None, is_some, refl, sym, ap, subst}
use Rattle.std.specs.Prelude.{◌==◌, ◌||◌, Ok, Err, slice_get}
use Rattle.std.proofs.lemmas.Bool.{or_parts, false≢true}
use Rattle.std.specs.FinMap.{get}
use Rattle.pm3_types.specs.Fields.{Fields}
use Rattle.pm3_types.specs.Graph.{Part, PartOf, with_part}
use Rattle.pm3_types.specs.Record.{Record}
use Rattle.pm3_graph.specs.declared.operations.Op.{Op}
use Rattle.pm3_graph.specs.declared.operations.Op.TheVariants.{New, Word, SetWord, Reference, SetReference, TailRef, SetTailRef, Byte, SetByte, Root, SetRoot}
use Rattle.pm3_graph.specs.declared.operations.PlainFault.{PlainFault}
use Rattle.pm3_graph.specs.declared.operations.PlainFault.TheVariants.{Taken}
use Rattle.pm3_graph.specs.Operation.{Outcome, IsStep, IsRun, IsNewTo, new_of, unless_taken}
use Rattle.pm3_graph.specs.Frame.{AreNewTo, FrameOfRuns}
use Rattle.pm3_history.proofs.RunNames.{run_grows}

-- the graph in an outcome
abbrev pub part_in : Part → Outcome → Part
part_in d (Ok made) = made.1
part_in d (Err fault) = d

-- whether a step was made, and its answer
abbrev pub is_made : Outcome → Bool
is_made (Ok made) = true
is_made (Err fault) = false

abbrev pub answer_in : ℕ → Outcome → ℕ
answer_in d (Ok made) = made.0
answer_in d (Err fault) = d

pub not_made : (fault : PlainFault) (made : ℕ × Part) → Err fault ≡ Ok made → ⊥
not_made fault made is = false≢true (ap is_made is)

-- a step leads to one graph
pub step_one : (catalog : List Fields) (op : Op) (answer : ℕ) (g h k : Part) → IsStep catalog op g answer h → IsStep catalog op g answer k → h ≡ k
step_one catalog op answer g h k first second = ap (part_in h) (sym first ∙ second)

-- and so does a run
pub run_one : (catalog : List Fields) (ops : List (Op × ℕ)) (g h k : Part) → IsRun catalog ops g h → IsRun catalog ops g k → h ≡ k
run_one catalog [] g h k first second = first ∙ sym second
run_one catalog (e ∷ es) g h k first second =
    let same : first.0 ≡ second.0 = step_one catalog e.0 e.1 g first.0 second.0 first.1 second.1 in
    run_one catalog es second.0 h k (subst (λ (m : Part). IsRun catalog es m h) same first.2) second.2

-- the last operation is a step of its own
pub run_split : (catalog : List Fields) (ops : List (Op × ℕ)) (op : Op) (answer : ℕ) (g w : Part) → IsRun catalog (ops ++ (op, answer) ∷ []) g w
    → (m : Part) × IsRun catalog ops g m × IsStep catalog op m answer w
run_split catalog [] op answer g w run = (g, refl, subst (λ (x : Part). IsStep catalog op g answer x) (sym run.2) run.1)
run_split catalog (e ∷ es) op answer g w run =
    let rest = run_split catalog es op answer run.0 w run.2 in (rest.0, (run.0, run.1, rest.1), rest.2)

pub none_of : (o : Option Record) → is_some o ≡ false → o ≡ None
none_of None is = refl
none_of (Some r) is = absurd (false≢true (sym is))

none_back : (o p : Option Record) → (is_some o ≡ true → is_some p ≡ true) → p ≡ None → o ≡ None
none_back None p kept none = refl
none_back (Some r) p kept none = absurd (false≢true (sym (ap is_some none) ∙ kept refl))

-- what is new to a graph is new to one with fewer names
new_back : (g m : Part) → ((n : ℕ) → is_some (get g.records n) ≡ true → is_some (get m.records n) ≡ true) → (op : Op) → IsNewTo m op → IsNewTo g op
new_back g m kept (New name ty tail) new = none_back (get g.records name) (get m.records name) (kept name) new
new_back g m kept (Word name f) new = tt
new_back g m kept (SetWord name f v) new = tt
new_back g m kept (Reference name f) new = tt
new_back g m kept (SetReference name f to) new = tt
new_back g m kept (TailRef name k) new = tt
new_back g m kept (SetTailRef name k to) new = tt
new_back g m kept (Byte name k) new = tt
new_back g m kept (SetByte name k v) new = tt
new_back g m kept (Root slot) new = tt
new_back g m kept (SetRoot slot to) new = tt

all_back : (g m : Part) → ((n : ℕ) → is_some (get g.records n) ≡ true → is_some (get m.records n) ≡ true) → (ops : List (Op × ℕ)) → AreNewTo m ops → AreNewTo g ops
all_back g m kept [] new = tt
all_back g m kept (e ∷ es) new = (new_back g m kept e.0 new.0, all_back g m kept es new.1)

-- a name that a step makes is new
fresh_by : (taken : Bool) (name : ℕ) (o : Outcome) (made : ℕ × Part) → unless_taken taken name o ≡ Ok made → taken ≡ false
fresh_by true name o made is = absurd (not_made (Taken name) made is)
fresh_by false name o made is = refl

new_step : (catalog : List Fields) (op : Op) (answer : ℕ) (g h : Part) → IsStep catalog op g answer h → IsNewTo g op
new_step catalog (New name ty tail) answer g h is =
    none_of (get g.records name)
    (or_parts (name == 0) (is_some (get g.records name))
    (fresh_by (name == 0 || is_some (get g.records name)) name (new_of g name ty tail (slice_get catalog ty)) (answer, h) is)).1
new_step catalog (Word name f) answer g h is = tt
new_step catalog (SetWord name f v) answer g h is = tt
new_step catalog (Reference name f) answer g h is = tt
new_step catalog (SetReference name f to) answer g h is = tt
new_step catalog (TailRef name k) answer g h is = tt
new_step catalog (SetTailRef name k to) answer g h is = tt
new_step catalog (Byte name k) answer g h is = tt
new_step catalog (SetByte name k v) answer g h is = tt
new_step catalog (Root slot) answer g h is = tt
new_step catalog (SetRoot slot to) answer g h is = tt

new_of_run : (catalog : List Fields) (ops : List (Op × ℕ)) (g w : Part) → IsRun catalog ops g w → AreNewTo g ops
new_of_run catalog [] g w run = tt
new_of_run catalog (e ∷ es) g w run =
    (new_step catalog e.0 e.1 g run.0 run.1, all_back g run.0 (run_grows catalog (e ∷ []) g run.0 (run.0, run.1, refl)).kept es (new_of_run catalog es run.0 w run.2))

-- a run on a part tells to what the same run leads on the whole
pub whole_is : FrameOfRuns → (catalog : List Fields) (ops : List (Op × ℕ)) (f l g w : Part) → IsRun catalog ops f l → PartOf f g → IsRun catalog ops g w → w ≡ with_part g l
whole_is frame catalog ops f l g w on part run =
    run_one catalog ops g w (with_part g l) run (frame catalog ops f g l part (new_of_run catalog ops g w run) on)
