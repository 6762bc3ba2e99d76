-- Insertions under new names leave a design, and so does each job; and what it leaves leads to no more than it may.
use Rattle.std.proofs.Common.{◌≡◌, ◌+◌, ◌*◌, ◌%◌, ◌≤◌, ℕ, zero, suc, List, [], ◌∷◌, ◌++◌, length, Bool, true, false, cond, None, Some, inl, inr, refl, sym, arith, ap, subst, ◌∙◌, take, drop, get_or, length-take-le, length-drop, length-append, take-append-drop}
use Rattle.std.specs.Prelude.{◌==◌}
use Rattle.std.specs.List.{slice_get}
use Rattle.std.proofs.Math.Nat.{suc-mul}
use Rattle.std.proofs.lemmas.List.{append-nil}
use Rattle.pm3_types.specs.Numbering.{is_among}
use Rattle.rand_pcg.specs.Pcg.{pcg32}
use Rattle.oo7_schema.specs.declared.sizes.Params.{Params}
use Rattle.oo7_schema.specs.declared.sizes.Size.{Size}
use Rattle.oo7_schema.specs.declared.sizes.Size.TheVariants.{Tiny, Small, Small6, Small9, Medium}
use Rattle.oo7_schema.specs.declared.jobs.Walk.{Walk}
use Rattle.oo7_schema.specs.declared.jobs.Walk.TheVariants.{T1, T2, T3, T6, T8, T9}
use Rattle.oo7_schema.specs.declared.jobs.Job.{Job}
use Rattle.oo7_schema.specs.declared.jobs.Job.TheVariants.{Traverse, Ask, Insert, Delete}
use Rattle.oo7_schema.specs.Sizes.{params_of, size_at}
use Rattle.oo7_schema.specs.Entries.{times, Once}
use Rattle.oo7_schema.specs.Flat.{Flat, reading_of}
use Rattle.oo7_schema.specs.Members.{size_number, params_in, greatest_composite}
use Rattle.oo7_schema.specs.Walk.{bases}
use Rattle.oo7_schema.specs.Draws.{begun, below, drawn, after}
use Rattle.oo7_schema.specs.Composites.{composite_bounds, objects_in}
use Rattle.oo7_schema.specs.Changes.{Course, has_room, with_composite, used, counted, inserted, insertions, insert, delete}
use Rattle.oo7_schema.specs.Alike.{met, IsClosed}
use Rattle.oo7_schema.specs.Jobs.{traversal, job_named}
use Rattle.oo7_schema.specs.JobLaws.{AreNew}
use Rattle.oo7_schema.specs.Designs.{IsFlatDesign}
use Rattle.oo7_schema.specs.DesignLaws.{InsertsLeaveDesigns, JobsLeaveDesigns, JobsLeaveClosed}
use Rattle.oo7_schema.proofs.Testing.{same_number, or_cases}
use Rattle.oo7_schema.proofs.Deciding.{times_cons}
use Rattle.oo7_schema.proofs.Holding.{in_front, counted_among, among_counted, times_join}
use Rattle.oo7_schema.proofs.Pieces.{times_take, times_drop, not_counted}
use Rattle.oo7_schema.proofs.Drawing.{AreBelow, drawn_below, some_bounds, AreDrawn, are_drawn}
use Rattle.oo7_schema.proofs.Making.{IsSound}
use Rattle.oo7_schema.proofs.Swapping.{swaps_leave_designs}
use Rattle.oo7_schema.proofs.Turning.{dates_leave_designs}
use Rattle.oo7_schema.proofs.Deleting.{deletes_leave_designs, Linked, deletes_linked}
use Rattle.oo7_schema.proofs.Closing.{Links, closed_by}
use Rattle.oo7_schema.proofs.Linking.{links_of_closed, objects_long}
use Rattle.oo7_schema.proofs.LinkingChanges.{swaps_linked, dates_linked}
use Rattle.oo7_schema.proofs.Inserting.{Insertion, insertion_stays, params_stay, still_new, insertion_links}

pub sizes_are_sound : (size : Size) → IsSound (params_of size)
sizes_are_sound Tiny = record { atomics = omega arith; connections = omega arith; document = omega arith }
sizes_are_sound Small = record { atomics = omega arith; connections = omega arith; document = omega arith }
sizes_are_sound Small6 = record { atomics = omega arith; connections = omega arith; document = omega arith }
sizes_are_sound Small9 = record { atomics = omega arith; connections = omega arith; document = omega arith }
sizes_are_sound Medium = record { atomics = omega arith; connections = omega arith; document = omega arith }

pub numbers_drawn : (p : Params) (s : Course) → IsSound p → AreDrawn p (drawn (composite_bounds p) s.draws)
numbers_drawn p s sound =
    are_drawn p (drawn (composite_bounds p) s.draws) []
    (subst (λ (bs : List ℕ). AreBelow (drawn (composite_bounds p) s.draws) bs) (sym (append-nil (composite_bounds p))) (drawn_below (composite_bounds p) s.draws (some_bounds p sound.atomics)))

-- names of their own under which nothing stands
abbrev Fresh : Flat → List ℕ → Type 0
Fresh g names = (n : ℕ) → is_among names n ≡ true → (n ≡ 0 → ⊥) × (g.look n ≡ None)

part_among : (n k : ℕ) (names : List ℕ) → is_among (take k names) n ≡ true → is_among names n ≡ true
part_among n k names among = counted_among n names (omega (arith, among_counted n (take k names) among, times_take n k names))

rest_among : (n k : ℕ) (names : List ℕ) → is_among (drop k names) n ≡ true → is_among names n ≡ true
rest_among n k names among = counted_among n names (omega (arith, among_counted n (drop k names) among, times_drop n k names))

rest_apart : (n k : ℕ) (names : List ℕ) → Once names → is_among (drop k names) n ≡ true → is_among (take k names) n ≡ false
rest_apart n k names once among =
    let most = once n in
    let both : times n (take k names ++ drop k names) ≡ times n names = ap (times n) (take-append-drop k names) in
    not_counted n (take k names) (omega (arith, most, both, times_join n (take k names) (drop k names), among_counted n (drop k names) among))

-- what insertions leave: a design, of which Q holds with the names that were drawn
pub record After (Q : List ℕ → Flat → Type 0) (most : ℕ) (g : Flat) : Type 0 where
  pub list : List ℕ
  pub few : length list ≤ most
  pub design : IsFlatDesign g
  pub holds : Q list g

-- Q goes on with each insertion
abbrev pub GoesOn : (List ℕ → Flat → Type 0) → Type 0
GoesOn Q = (g : Flat) (p : Params) (k i place : ℕ) (names nums list : List ℕ) → Insertion g p k place names nums → Q list g
    → Q (list ++ names) (counted p k (used i place (get_or names 0 0) (with_composite p k names nums g)))

module _ (Q : List ℕ → Flat → Type 0) (goes_on : GoesOn Q) (p : Params) (sound : IsSound p) where
  -- what the names and the design are before so many tries
  record Before (tries k : ℕ) (names list : List ℕ) (g : Flat) : Type 0 where
    design : IsFlatDesign g
    params : params_in g ≡ p
    long : length names ≡ tries * objects_in p
    once : Once names
    fresh : Fresh g names
    some : 1 ≤ k
    holds : Q list g

  insertions_after : (tries k : ℕ) (names list : List ℕ) (s : Course) → Before tries k names list s.design → After Q (length list + length names) (insertions p tries k names s).design
  insertions_after zero k names list s before = record { list = list; few = omega arith; design = before.design; holds = before.holds }
  insertions_after (suc tries) k names list s before = by_test (has_room p k) refl (insertions_after tries)
    where
      place : ℕ
      place = (pcg32 (below (length (bases s.design)) (after (composite_bounds p) s.draws)).1).0 % 3

      first : List ℕ
      first = take (objects_in p) names

      rest : List ℕ
      rest = drop (objects_in p) names

      nums : List ℕ
      nums = drawn (composite_bounds p) s.draws

      base : ℕ
      base = (pcg32 (after (composite_bounds p) s.draws)).0 % length (bases s.design)

      enough : objects_in p ≤ length names
      enough = omega (arith, before.long, suc-mul tries (objects_in p))

      insertion : has_room p k ≡ true → Insertion s.design p k place first nums
      insertion room = record {
        design = before.design;
        params = before.params;
        sound = sound;
        count = length-take-le (objects_in p) names enough;
        once = λ n. (let most = before.once n in omega (arith, most, times_take n (objects_in p) names));
        new = λ n among. before.fresh n (part_among n (objects_in p) names among);
        drawn = numbers_drawn p s sound;
        room = room;
        some = before.some;
        low = omega arith;
      }

      later_before : (room : has_room p k ≡ true) → Before tries (k + 1) rest (list ++ first) (inserted p k first s).design
      later_before room = record {
        design = insertion_stays s.design p k base place first nums (insertion room);
        params = params_stay s.design p k base place first nums (insertion room);
        long = omega (arith, length-drop (objects_in p) names, before.long, suc-mul tries (objects_in p));
        once = λ n. (let most = before.once n in omega (arith, most, times_drop n (objects_in p) names));
        fresh = λ n among. (
          (before.fresh n (rest_among n (objects_in p) names among)).0,
          still_new s.design p k base place first nums (insertion room) n (before.fresh n (rest_among n (objects_in p) names among)).0
              (before.fresh n (rest_among n (objects_in p) names among)).1 (rest_apart n (objects_in p) names before.once among),
        );
        some = omega arith;
        holds = goes_on s.design p k base place first nums list (insertion room) before.holds;
      }

      by_test : (b : Bool) → has_room p k ≡ b
          → ((k : ℕ) (names list : List ℕ) (s : Course) → Before tries k names list s.design → After Q (length list + length names) (insertions p tries k names s).design)
          → After Q (length list + length names) (cond b (insertions p tries (k + 1) rest (inserted p k first s)) s).design
      by_test true room later =
          let done : After Q (length (list ++ first) + length rest) (insertions p tries (k + 1) rest (inserted p k first s)).design = later (k + 1) rest (list ++ first) (inserted p k first s) (later_before room) in
          record {
            list = done.list;
            few = omega (arith, done.few, length-append list first, length-take-le (objects_in p) names enough, length-drop (objects_in p) names);
            design = done.design;
            holds = done.holds;
          }
      by_test false room later = record { list = list; few = omega arith; design = before.design; holds = before.holds }

-- the place of a name in a list
record Sits (names : List ℕ) (n : ℕ) : Type 0 where
  place : ℕ
  at : slice_get names place ≡ Some n

sits : (names : List ℕ) (n : ℕ) → is_among names n ≡ true → Sits names n
sits [] n among = cc
sits (m ∷ names) n among = elim (or_cases (n == m) (is_among names n) among) [
  | inl here ↦ record { place = 0; at = ap (λ (k : ℕ). Some k) (sym (same_number n m here)) }
  | inr later ↦ record { place = suc (sits names n later).place; at = (sits names n later).at }
]

once_by_places : (names : List ℕ) → ((j k n : ℕ) → slice_get names j ≡ Some n → slice_get names k ≡ Some n → j ≡ k) → Once names
once_by_places [] one n = omega arith
once_by_places (m ∷ names) one n =
    by_test (once_by_places names (λ j k x first second. let next : suc j ≡ suc k = one (suc j) (suc k) x first second in omega (arith, next)) n) (m == n) refl (is_among names n) refl
  where
    by_test : times n names ≤ 1 → (b : Bool) → (m == n) ≡ b → (t : Bool) → is_among names n ≡ t → times n (m ∷ names) ≤ 1
    by_test most true is true among =
        let place : Sits names n = sits names n among in
        let again : 0 ≡ suc place.place = one 0 (suc place.place) n (ap (λ (k : ℕ). Some k) (same_number m n is)) place.at in
        absurd (omega (arith, again))
    by_test most true is false among =
        let none : times n names ≡ 0 = absent (times n names) refl in
        omega (arith, none, in_front n m names (same_number m n is))
      where
        absent : (c : ℕ) → times n names ≡ c → times n names ≡ 0
        absent zero count = count
        absent (suc c) count = let there : is_among names n ≡ true = counted_among n names (omega (arith, count)) in cc (there, among)
    by_test most false is t among =
        let none : times n (m ∷ names) ≡ 0 + times n names = times_cons n m names ∙ ap (λ (b : Bool). cond b 1 0 + times n names) is in
        omega (arith, most, none)

-- what `insert` leaves
pub inserts_after : (Q : List ℕ → Flat → Type 0) → GoesOn Q → (g : Flat) (choice : ℕ) (names list : List ℕ) → AreNew g names → IsFlatDesign g → Q list g
    → After Q (length list + length names) (insert g choice names).design
inserts_after Q goes_on g choice names list new design holds =
    insertions_after Q goes_on (params_in g) (sizes_are_sound (size_at (size_number g))) 5 (greatest_composite g + 1) names list (record { design = g; draws = begun choice 7; parts = 0 }) (record {
      design = design;
      params = refl;
      long = new.count;
      once = once_by_places names new.once;
      fresh = λ n among. new.none (sits names n among).place n (sits names n among).at;
      some = omega arith;
      holds = holds;
    })

pub inserts_leave_designs : InsertsLeaveDesigns
inserts_leave_designs = λ g choice names new design.
    (inserts_after (λ (list : List ℕ) (g : Flat). Unit {0}) (λ g p k i place names nums list insertion holds. tt) g choice names [] new design tt).design

traversals_leave_designs : (walk : Walk) (g : Flat) → IsFlatDesign g → IsFlatDesign (traversal walk g).left
traversals_leave_designs T1 g design = design
traversals_leave_designs (T2 e) g design = swaps_leave_designs g e design
traversals_leave_designs (T3 e) g design = dates_leave_designs g e design
traversals_leave_designs T6 g design = design
traversals_leave_designs T8 g design = design
traversals_leave_designs T9 g design = design

pub jobs_leave_designs : JobsLeaveDesigns
jobs_leave_designs (Traverse walk) g names new design = traversals_leave_designs walk g design
jobs_leave_designs (Ask query) g names new design = design
jobs_leave_designs (Insert seed) g names new design = inserts_leave_designs g seed names new design
jobs_leave_designs (Delete seed) g names new design = deletes_leave_designs g seed design

traversals_linked : (list : List ℕ) (walk : Walk) (g : Flat) → Linked list g → Linked list (traversal walk g).left
traversals_linked list T1 g linked = linked
traversals_linked list (T2 e) g linked = swaps_linked list g e linked
traversals_linked list (T3 e) g linked = dates_linked list g e linked
traversals_linked list T6 g linked = linked
traversals_linked list T8 g linked = linked
traversals_linked list T9 g linked = linked

-- how many new names a job may use
abbrev pub may_use : Job → List ℕ → ℕ
may_use (Traverse walk) names = 0
may_use (Ask query) names = 0
may_use (Insert seed) names = length names
may_use (Delete seed) names = 0

-- what a job leaves leads to what its graph led to, and to new names
pub jobs_after : (job : Job) (g : Flat) (names list : List ℕ) → AreNew g names → Linked list g → After Links (length list + may_use job names) (job_named job names g).left
jobs_after (Traverse walk) g names list new linked =
    let left : Linked list (traversal walk g).left = traversals_linked list walk g linked in
    record { list = list; few = omega arith; design = left.design; holds = left.links }
jobs_after (Ask query) g names list new linked = record { list = list; few = omega arith; design = linked.design; holds = linked.links }
jobs_after (Insert seed) g names list new linked =
    inserts_after Links (λ g p k i place names nums list insertion links. insertion_links g p k i place names nums insertion list links) g seed names list new linked.design linked.links
jobs_after (Delete seed) g names list new linked =
    let left : Linked list (delete g seed).design = deletes_linked list g seed linked in
    record { list = list; few = omega arith; design = left.design; holds = left.links }

no_more_used : (job : Job) (names : List ℕ) → may_use job names ≤ length names
no_more_used (Traverse walk) names = omega arith
no_more_used (Ask query) names = omega arith
no_more_used (Insert seed) names = omega arith
no_more_used (Delete seed) names = omega arith

-- that holds where a design's reading has all that it reaches
pub after_closed : (job : Job) (g : Flat) (count : ℕ) (names : List ℕ) → AreNew g names → IsFlatDesign g → IsClosed g count
    → After Links (length (met g count) + may_use job names) (job_named job names g).left
after_closed job g count names new design closed = jobs_after job g names (met g count) new (record { design = design; links = links_of_closed g count closed })

pub jobs_leave_closed : JobsLeaveClosed
jobs_leave_closed = λ job g count names new design closed.
    let after : After Links (length (met g count) + may_use job names) (job_named job names g).left = after_closed job g count names new design closed in
    closed_by after.list (job_named job names g).left after.design.nil after.holds (length (reading_of g count).objects + length names)
    (omega (arith, after.few, objects_long g count, no_more_used job names))
