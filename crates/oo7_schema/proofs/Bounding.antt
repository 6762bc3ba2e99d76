-- What jobs and builds make is within the room of a command.
use Rattle.std.proofs.Common.{◌≡◌, ◌+◌, ◌*◌, ◌≤◌, ℕ, zero, suc, List, [], ◌∷◌, ◌++◌, length, Bool, true, false, cond, not, refl, sym, arith, subst, length-append}
use Rattle.std.specs.Prelude.{◌==◌, filter, fold, flat_map}
use Rattle.std.specs.List.{AllByRecursion}
use Rattle.std.proofs.Math.Nat.{suc-mul, mul-le-mul_left, mul-le-mul_right, le-mul_of_pos_right}
use Rattle.pm3_types.specs.Numbering.{is_among}
use Rattle.oo7_schema.specs.declared.jobs.Extent.{Extent}
use Rattle.oo7_schema.specs.declared.jobs.Extent.TheVariants.{A, B, C}
use Rattle.oo7_schema.specs.declared.jobs.Job.{Job}
use Rattle.oo7_schema.specs.declared.jobs.Job.TheVariants.{Traverse, Ask, Insert, Delete}
use Rattle.oo7_schema.specs.Sizes.{size_at}
use Rattle.oo7_schema.specs.Lookup.{items}
use Rattle.oo7_schema.specs.Entries.{Once}
use Rattle.oo7_schema.specs.Flat.{Flat}
use Rattle.oo7_schema.specs.Members.{size_number, params_in, places, root_part, neighbours}
use Rattle.oo7_schema.specs.Walk.{bases, walk, parts_at, met_once, met_under, parts_of, all_parts}
use Rattle.oo7_schema.specs.Traversals.{changes}
use Rattle.oo7_schema.specs.Composites.{objects_in}
use Rattle.oo7_schema.specs.Alike.{met}
use Rattle.oo7_schema.specs.Jobs.{job_named}
use Rattle.oo7_schema.specs.JobLaws.{AreNew}
use Rattle.oo7_schema.specs.Designs.{IsComposite, IsFlatDesign, composites}
use Rattle.oo7_schema.specs.Room.{part, base_count, most_made}
use Rattle.oo7_schema.specs.RoomLaws.{JobsMakeWithin, TurnsMakeWithin, BuildsMakeWithin}
use Rattle.oo7_schema.proofs.Counting.{changes_are_counted, bases_are_counted}
use Rattle.oo7_schema.proofs.KeptObjects.{all_among}
use Rattle.oo7_schema.proofs.Swapping.{walk_inside, visit_inside}
use Rattle.oo7_schema.proofs.Closing.{Links, once_more, no_longer, few_met}
use Rattle.oo7_schema.proofs.Linking.{objects_long}
use Rattle.oo7_schema.proofs.Making.{IsSound}
use Rattle.oo7_schema.proofs.Insertions.{After, may_use, after_closed, sizes_are_sound}

used_within : (job : Job) (g : Flat) (names : List ℕ) → AreNew g names → may_use job names ≤ most_made (params_in g) job
used_within (Traverse walk) g names new = omega arith
used_within (Ask query) g names new = omega arith
used_within (Insert seed) g names new = omega (arith, new.count)
used_within (Delete seed) g names new = omega arith

pub jobs_make_within : JobsMakeWithin
jobs_make_within = λ job g count after names new design closed.
    let left : After Links (length (met g count) + may_use job names) (job_named job names g).left = after_closed job g count names new design closed in
    omega (
      arith,
      objects_long (job_named job names g).left after,
      few_met left.list (job_named job names g).left left.design.nil left.holds after,
      left.few,
      objects_long g count,
      used_within job g names new,
    )

-- no part is met twice in a visit
fold_once : (f : List ℕ → ℕ → List ℕ) → ((ms : List ℕ) (n : ℕ) → Once ms → Once (f ms n)) → (ns ms : List ℕ) → Once ms → Once (fold f ms ns)
fold_once f step [] ms once = once
fold_once f step (n ∷ ns) ms once = fold_once f step ns (f ms n) (step ms n once)

visit_once : (next : ℕ → List ℕ) (d : ℕ) (ms : List ℕ) (n : ℕ) → Once ms → Once (met_under next d ms n)
visit_once next zero ms n once = once
visit_once next (suc d) ms n once = by_test (is_among ms n) refl (visit_once next d)
  where
    by_test : (b : Bool) → is_among ms n ≡ b → ((ms2 : List ℕ) (m : ℕ) → Once ms2 → Once (met_under next d ms2 m)) → Once (met_once (met_under next d) (next n) (is_among ms n) ms n)
    by_test true is step = subst (λ (b : Bool). Once (met_once (met_under next d) (next n) b ms n)) (sym is) once
    by_test false is step = subst (λ (b : Bool). Once (met_once (met_under next d) (next n) b ms n)) (sym is) (fold_once (met_under next d) step (next n) (ms ++ n ∷ []) (once_more ms n is once))

-- lists of at most so many items each
flat_few : (own : ℕ → List ℕ) (most : ℕ) (ns : List ℕ) → AllByRecursion (λ (n : ℕ). length (own n) ≤ most) ns → length (flat_map own ns) ≤ length ns * most
flat_few own most [] all = omega arith
flat_few own most (n ∷ ns) all = omega (arith, length-append (own n) (flat_map own ns), all.0, flat_few own most ns all.1, suc-mul (length ns) most)

filter_few : (p : ℕ → Bool) (ns : List ℕ) → length (filter p ns) ≤ length ns
filter_few p [] = omega arith
filter_few p (n ∷ ns) = by_test (p n) (filter_few p ns)
  where
    by_test : (b : Bool) → length (filter p ns) ≤ length ns → length (cond b (n ∷ filter p ns) (filter p ns)) ≤ suc (length ns)
    by_test true few = omega (arith, few)
    by_test false few = omega (arith, few)

module _ (g : Flat) (design : IsFlatDesign g) where
  visits_few : length (walk g) ≤ length (bases g) * 3
  visits_few = flat_few (parts_at g.look) 3 (bases g) (each (bases g))
    where
      each : (bs : List ℕ) → AllByRecursion (λ (b : ℕ). length (parts_at g.look b) ≤ 3) bs
      each [] = tt
      each (b ∷ bs) = (filter_few (λ (n : ℕ). not (n == 0)) (places g.look b), each bs)

  met_few : (c : ℕ) → is_among (composites g) c ≡ true → length (parts_of g.look (params_in g).atomics c) ≤ (params_in g).atomics
  met_few c among =
      let composite : IsComposite g.look (params_in g).atomics c = all_among (IsComposite g.look (params_in g).atomics) (composites g) c design.parts among in
      let few : length (parts_of g.look (params_in g).atomics c) ≤ length (items g.look c) =
      no_longer (parts_of g.look (params_in g).atomics c) (items g.look c) (visit_once (neighbours g.look) (params_in g).atomics [] (root_part g.look c) (λ n. omega arith))
      (λ n met. all_among (λ (q : ℕ). is_among (items g.look c) q ≡ true) (parts_of g.look (params_in g).atomics c) n (visit_inside g design c among) met) in
      omega (arith, few, composite.count)

  parts_few : length (all_parts g) ≤ length (walk g) * (params_in g).atomics
  parts_few = flat_few (parts_of g.look (params_in g).atomics) (params_in g).atomics (walk g) (each (walk g) (walk_inside g design))
    where
      each : (cs : List ℕ) → AllByRecursion (λ (c : ℕ). is_among (composites g) c ≡ true) cs → AllByRecursion (λ (c : ℕ). length (parts_of g.look (params_in g).atomics c) ≤ (params_in g).atomics) cs
      each [] all = tt
      each (c ∷ cs) all = (met_few c all.0, each cs all.1)

  bases_few : length (bases g) ≡ base_count (params_in g)
  bases_few = bases_are_counted g

  all_parts_few : length (all_parts g) ≤ 3 * (base_count (params_in g) * (params_in g).atomics)
  all_parts_few =
      let most : length (walk g) * (params_in g).atomics ≤ base_count (params_in g) * 3 * (params_in g).atomics =
      mul-le-mul_right (params_in g).atomics (subst (λ (n : ℕ). length (walk g) ≤ n * 3) bases_few visits_few) in
      let turned : base_count (params_in g) * 3 * (params_in g).atomics ≡ 3 * (base_count (params_in g) * (params_in g).atomics) = grind arith in
      omega (arith, parts_few, most, turned)

  -- at most twelve changes for each part of a base assembly
  changes_few : (e : Extent) → changes g e ≤ 12 * (base_count (params_in g) * (params_in g).atomics)
  changes_few A =
      let sound : IsSound (params_in g) = sizes_are_sound (size_at (size_number g)) in
      let wide : base_count (params_in g) ≤ base_count (params_in g) * (params_in g).atomics = le-mul_of_pos_right (base_count (params_in g)) sound.atomics in
      omega (arith, (changes_are_counted g).a, visits_few, bases_few, wide)
  changes_few B = omega (arith, (changes_are_counted g).b, all_parts_few)
  changes_few C = omega (arith, (changes_are_counted g).c, all_parts_few)

pub turns_make_within : TurnsMakeWithin
turns_make_within = λ g e design. omega (arith, changes_few g design e)

pub builds_make_within : BuildsMakeWithin
builds_make_within p =
    let fewer : p.composites * objects_in p ≤ p.composites * part p = mul-le-mul_left p.composites (omega arith) in
    omega (arith, fewer)
