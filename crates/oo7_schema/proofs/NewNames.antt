-- Names that are new in two alike graphs may stand for each other, place by place; so each job on alike graphs answers alike and
-- leaves them alike.
use Rattle.std.proofs.Common.{◌≡◌, ◌≢◌, ◌+◌, ◌*◌, ◌≤◌, ℕ, zero, suc, List, [], ◌∷◌, length, Bool, true, false, Option, None, Some, ◌⊎◌, inl, inr, refl, sym, arith, ap, subst, ◌∙◌}
use Rattle.std.specs.List.{AllZip, slice_get, range_with_len}
use Rattle.pm3_types.specs.Fields.{Fields, is_reference, has_refs}
use Rattle.pm3_types.specs.Record.{Record}
use Rattle.oo7_schema.specs.declared.sizes.Params.{Params}
use Rattle.oo7_schema.specs.declared.jobs.Walk.{Walk}
use Rattle.oo7_schema.specs.declared.jobs.Walk.TheVariants.{T1, T2, T3, T6, T8, T9}
use Rattle.oo7_schema.specs.declared.jobs.Query.{Query}
use Rattle.oo7_schema.specs.declared.jobs.Query.TheVariants.{Q1, Q2, Q3, Q4, Q5, Q7}
use Rattle.oo7_schema.specs.declared.jobs.Job.{Job}
use Rattle.oo7_schema.specs.declared.jobs.Job.TheVariants.{Traverse, Ask, Insert, Delete}
use Rattle.oo7_schema.specs.Lookup.{listed_schema}
use Rattle.oo7_schema.specs.Flat.{Flat, Reading, reading_of, object_of, flat_of}
use Rattle.oo7_schema.specs.Members.{params_in}
use Rattle.oo7_schema.specs.Composites.{objects_in}
use Rattle.oo7_schema.specs.Traversals.{t2, t3}
use Rattle.oo7_schema.specs.Changes.{Course, insert, delete}
use Rattle.oo7_schema.specs.Jobs.{traversal, answer_to, job_named, names_from}
use Rattle.oo7_schema.specs.Alike.{Pairing, AreAlike, AlikeFields, AlikeTail, AlikePlaces, AlikeObjects, AlikeFlats, met, Stands, IsClosed}
use Rattle.oo7_schema.specs.JobLaws.{AlikeHaveOneReading, IsAlikeToItsReading, AreNew, AreOne, JobsSeeReadings, JobIsOfReading}
use Rattle.oo7_schema.proofs.VisitAlike.{t1_alike, t6_alike, t8_alike, t9_alike, changes_alike, q1_alike, q2_alike, q3_alike, q4_alike, q5_alike, q7_alike, params_alike}
use Rattle.oo7_schema.proofs.WriteAlike.{t2_alike, t3_alike, delete_alike, AlikeCourses}
use Rattle.oo7_schema.proofs.InsertAlike.{insert_alike}
use Rattle.oo7_schema.proofs.OneReading.{alike_reading}
use Rattle.oo7_schema.proofs.OwnReading.{numbers_pair, reading_stands, stands_there}

-- what is alike by one relation is alike by a wider one
module _ (R S : ℕ → ℕ → Type 0) (wider : (m n : ℕ) → R m n → S m n) where
  value_wider : (b : Bool) (v w : ℕ) → AreAlike R b v w → AreAlike S b v w
  value_wider true v w alike = wider v w alike
  value_wider false v w alike = alike

  fields_wider : (map : Fields) (f : ℕ) (vs ws : List ℕ) → AlikeFields R map f vs ws → AlikeFields S map f vs ws
  fields_wider map f [] [] alike = tt
  fields_wider map f [] (w ∷ ws) alike = absurd alike
  fields_wider map f (v ∷ vs) [] alike = absurd alike
  fields_wider map f (v ∷ vs) (w ∷ ws) alike = (value_wider (is_reference map f) v w alike.0, fields_wider map (suc f) vs ws alike.1)

  zip_wider : (vs ws : List ℕ) → AllZip R vs ws → AllZip S vs ws
  zip_wider [] [] alike = tt
  zip_wider [] (w ∷ ws) alike = absurd alike
  zip_wider (v ∷ vs) [] alike = absurd alike
  zip_wider (v ∷ vs) (w ∷ ws) alike = (wider v w alike.0, zip_wider vs ws alike.1)

  tail_wider : (b : Bool) (vs ws : List ℕ) → AlikeTail R b vs ws → AlikeTail S b vs ws
  tail_wider true vs ws alike = zip_wider vs ws alike
  tail_wider false vs ws alike = alike

  places_wider : (o : Option Fields) (r s : Record) → AlikePlaces R o r s → AlikePlaces S o r s
  places_wider None r s alike = alike
  places_wider (Some map) r s alike = (fields_wider map 0 r.fields s.fields alike.0, tail_wider (has_refs map.tail) r.tail s.tail alike.1)

  objects_wider : (o p : Option Record) → AlikeObjects R o p → AlikeObjects S o p
  objects_wider None None alike = tt
  objects_wider None (Some s) alike = absurd alike
  objects_wider (Some r) None alike = absurd alike
  objects_wider (Some r) (Some s) alike = record { class = alike.class; places = places_wider (slice_get listed_schema r.ty) r s alike.places }

-- two names stand at one place of two lists
pub record Beside (xs ys : List ℕ) (m n : ℕ) : Type 0 where
  pub place : ℕ
  pub first : slice_get xs place ≡ Some m
  pub second : slice_get ys place ≡ Some n

-- a relation, and beside it the names of two lists
abbrev pub Wider : (ℕ → ℕ → Type 0) → List ℕ → List ℕ → ℕ → ℕ → Type 0
Wider R xs ys m n = R m n ⊎ Beside xs ys m n

-- names that stand for others are in neither list
abbrev Apart : (ℕ → ℕ → Type 0) → List ℕ → List ℕ → Type 0
Apart R xs ys = (m n k : ℕ) → R m n → (slice_get xs k ≡ Some m → ⊥) × (slice_get ys k ≡ Some n → ⊥)

abbrev NoneTwice : List ℕ → Type 0
NoneTwice xs = (j k n : ℕ) → slice_get xs j ≡ Some n → slice_get xs k ≡ Some n → j ≡ k

module _ (R : ℕ → ℕ → Type 0) (pairing : Pairing R) (xs ys : List ℕ) (apart : Apart R xs ys) (once : NoneTwice xs) (once2 : NoneTwice ys) where
  one_wider : (m n p : ℕ) → Wider R xs ys m n → Wider R xs ys m p → n ≡ p
  one_wider m n p (inl is) (inl also) = pairing.one m n p is also
  one_wider m n p (inl is) (inr also) = absurd ((apart m n also.place is).0 also.first)
  one_wider m n p (inr is) (inl also) = absurd ((apart m p is.place also).0 is.first)
  one_wider m n p (inr is) (inr also) =
      let same : is.place ≡ also.place = once is.place also.place m is.first also.first in
      let both : Some n ≡ Some p = sym is.second ∙ ap (λ (k : ℕ). slice_get ys k) same ∙ also.second in
      cc

  back_wider : (m q n : ℕ) → Wider R xs ys m n → Wider R xs ys q n → m ≡ q
  back_wider m q n (inl is) (inl also) = pairing.back m q n is also
  back_wider m q n (inl is) (inr also) = absurd ((apart m n also.place is).1 also.second)
  back_wider m q n (inr is) (inl also) = absurd ((apart q n is.place also).1 is.second)
  back_wider m q n (inr is) (inr also) =
      let same : is.place ≡ also.place = once2 is.place also.place n is.second also.second in
      let both : Some m ≡ Some q = sym is.first ∙ ap (λ (k : ℕ). slice_get xs k) same ∙ also.first in
      cc

  wider_pairing : Pairing (Wider R xs ys)
  wider_pairing = record { one = one_wider; back = back_wider; nil = inl pairing.nil }

beside_first : (x y : ℕ) (xs ys : List ℕ) → Beside (x ∷ xs) (y ∷ ys) x y
beside_first x y xs ys = record { place = 0; first = refl; second = refl }

beside_later : (x y : ℕ) (xs ys : List ℕ) (m n : ℕ) → Beside xs ys m n → Beside (x ∷ xs) (y ∷ ys) m n
beside_later x y xs ys m n is = record { place = suc is.place; first = is.first; second = is.second }

zip_beside : (S : ℕ → ℕ → Type 0) (xs ys : List ℕ) → length xs ≡ length ys → ((m n : ℕ) → Beside xs ys m n → S m n) → AllZip S xs ys
zip_beside S [] [] long stands = tt
zip_beside S [] (y ∷ ys) long stands = absurd (omega arith)
zip_beside S (x ∷ xs) [] long stands = absurd (omega arith)
zip_beside S (x ∷ xs) (y ∷ ys) long stands =
    (stands x y (beside_first x y xs ys), zip_beside S xs ys (omega arith) (λ m n is. stands m n (beside_later x y xs ys m n is)))

module _ (R : ℕ → ℕ → Type 0) (xs ys : List ℕ) (f g : Flat) (alike : AlikeFlats R f g)
    (none : (k m : ℕ) → slice_get xs k ≡ Some m → f.look m ≡ None) (none2 : (k n : ℕ) → slice_get ys k ≡ Some n → g.look n ≡ None) where
  object_wider : (m n : ℕ) → Wider R xs ys m n → AlikeObjects (Wider R xs ys) (f.look m) (g.look n)
  object_wider m n (inl is) = objects_wider R (Wider R xs ys) (λ p q pair. inl pair) (f.look m) (g.look n) (alike.looks.at m n is)
  object_wider m n (inr is) =
      subst (λ (o : Option Record). AlikeObjects (Wider R xs ys) o (g.look n)) (sym (none is.place m is.first))
      (subst (λ (o : Option Record). AlikeObjects (Wider R xs ys) None o) (sym (none2 is.place n is.second)) tt)

  flats_wider : AlikeFlats (Wider R xs ys) f g
  flats_wider = record { looks = record { at = object_wider }; roots = zip_wider R (Wider R xs ys) (λ p q pair. inl pair) f.roots g.roots alike.roots }

courses_one : (S : ℕ → ℕ → Type 0) (pairs : Pairing S) (s t : Course) → AlikeCourses S pairs s t
    → AreOne (record { answer = s.parts; left = s.design }) (record { answer = t.parts; left = t.design })
courses_one S pairs s t courses = record { answer = courses.parts; left = λ count. alike_reading S pairs s.design t.design count courses.designs }

module _ (R : ℕ → ℕ → Type 0) (pairing : Pairing R) (f g : Flat) (alike : AlikeFlats R f g) where
  as_they_are : (a b : ℕ) → a ≡ b → AreOne (record { answer = a; left = f }) (record { answer = b; left = g })
  as_they_are a b same = record { answer = same; left = λ count. alike_reading R pairing f g count alike }

  traversals_one : (walk : Walk) → AreOne (traversal walk f) (traversal walk g)
  traversals_one T1 = as_they_are _ _ (t1_alike R pairing f g alike)
  traversals_one (T2 e) = record { answer = changes_alike R pairing f g alike e; left = λ count. alike_reading R pairing (t2 f e) (t2 g e) count (t2_alike R pairing f g e alike) }
  traversals_one (T3 e) = record { answer = changes_alike R pairing f g alike e; left = λ count. alike_reading R pairing (t3 f e) (t3 g e) count (t3_alike R pairing f g e alike) }
  traversals_one T6 = as_they_are _ _ (t6_alike R pairing f g alike)
  traversals_one T8 = as_they_are _ _ (t8_alike R pairing f g alike)
  traversals_one T9 = as_they_are _ _ (t9_alike R pairing f g alike)

  answers_one : (query : Query) → answer_to query f ≡ answer_to query g
  answers_one (Q1 seed) = q1_alike R pairing f g alike seed
  answers_one Q2 = q2_alike R pairing f g alike
  answers_one Q3 = q3_alike R pairing f g alike
  answers_one (Q4 seed) = q4_alike R pairing f g alike seed
  answers_one Q5 = q5_alike R pairing f g alike
  answers_one Q7 = q7_alike R pairing f g alike

  jobs_one : (job : Job) (xs ys : List ℕ) → Apart R xs ys → AreNew f xs → AreNew g ys → AreOne (job_named job xs f) (job_named job ys g)
  jobs_one (Traverse walk) xs ys apart new new2 = traversals_one walk
  jobs_one (Ask query) xs ys apart new new2 = as_they_are (answer_to query f) (answer_to query g) (answers_one query)
  jobs_one (Insert seed) xs ys apart new new2 =
      let long : length xs ≡ length ys = new.count ∙ ap (λ (p : Params). 5 * objects_in p) (params_alike R pairing f g alike) ∙ sym new2.count in
      courses_one (Wider R xs ys) (wider_pairing R pairing xs ys apart new.once new2.once) (insert f seed xs) (insert g seed ys)
      (insert_alike (Wider R xs ys) (wider_pairing R pairing xs ys apart new.once new2.once) f g seed xs ys
      (zip_beside (Wider R xs ys) xs ys long (λ m n is. inr is))
      (flats_wider R xs ys f g alike (λ k m at. (new.none k m at).1) (λ k n at. (new2.none k n at).1)))
  jobs_one (Delete seed) xs ys apart new new2 = courses_one R pairing (delete f seed) (delete g seed) (delete_alike R pairing f g seed alike)

pub alike_have_one_reading : AlikeHaveOneReading
alike_have_one_reading = λ test f g count pairing alike. alike_reading (λ m n. test m n ≡ true) pairing f g count alike

pub is_alike_to_its_reading : IsAlikeToItsReading
is_alike_to_its_reading = λ g count closed. (numbers_pair g count closed, reading_stands g count closed)

-- numbers of a reading that are new stand for no name, and names that are new have no number
stand_apart : (g : Flat) (count : ℕ) (closed : IsClosed g count) (numbers names : List ℕ) → AreNew (flat_of (reading_of g count)) numbers → AreNew g names
    → Apart (Stands (met g count)) numbers names
stand_apart g count closed numbers names new new2 m n k stands = (
  λ at. elim (new_or_nil m n stands) [ inl nil ↦ (new.none k m at).0 nil.0 | inr there ↦ there.0 (new.none k m at).1 ],
  λ at. elim (new_or_nil m n stands) [ inl nil ↦ (new2.none k n at).0 nil.1 | inr there ↦ there.1 (new2.none k n at).1 ],
)
  where
    new_or_nil : (m n : ℕ) → Stands (met g count) m n → ((m ≡ 0) × (n ≡ 0)) ⊎ (((flat_of (reading_of g count)).look m ≡ None → ⊥) × (g.look n ≡ None → ⊥))
    new_or_nil m n (inr nil) = inl nil
    new_or_nil m n (inl numbered) = inr (stands_there g count closed m n numbered)

pub jobs_see_readings : JobsSeeReadings
jobs_see_readings = λ job g count numbers names closed new new2.
    jobs_one (Stands (met g count)) (numbers_pair g count closed) (flat_of (reading_of g count)) g (reading_stands g count closed) job numbers names
    (stand_apart g count closed numbers names new new2) new new2

range_length : (a n : ℕ) → length (range_with_len a n) ≡ n
range_length a zero = refl
range_length a (suc n) = ap (λ (k : ℕ). suc k) (range_length (a + 1) n)

range_at : (a n k x : ℕ) → slice_get (range_with_len a n) k ≡ Some x → x ≡ a + k
range_at a zero k x is = cc
range_at a (suc n) zero x is = let same : a ≡ x = cc in omega (arith, same)
range_at a (suc n) (suc k) x is = omega (arith, range_at (a + 1) n k x is)

past_end : (rs : List Record) (k : ℕ) → length rs ≤ k → slice_get rs k ≡ None
past_end [] k past = refl
past_end (r ∷ rs) zero past = absurd (omega arith)
past_end (r ∷ rs) (suc k) past = past_end rs k (omega arith)

-- the numbers behind those of a reading are new
pub numbers_are_new : (r : Reading) → AreNew (flat_of r) (names_from (length r.objects + 1) (flat_of r))
numbers_are_new r = record {
  count = range_length (length r.objects + 1) (5 * objects_in (params_in (flat_of r)));
  none = λ k n at. not_there k n (range_at (length r.objects + 1) (5 * objects_in (params_in (flat_of r))) k n at);
  once = λ j k n at at2.
      omega (arith, range_at (length r.objects + 1) (5 * objects_in (params_in (flat_of r))) j n at, range_at (length r.objects + 1) (5 * objects_in (params_in (flat_of r))) k n at2);
}
  where
    not_there : (k n : ℕ) → n ≡ length r.objects + 1 + k → (n ≢ 0) × (object_of r.objects n ≡ None)
    not_there k n is =
        let next : suc (length r.objects + k) ≡ n = omega (arith, is) in (
          λ nil. absurd (omega (arith, is, nil)),
          subst (λ (m : ℕ). object_of r.objects m ≡ None) next (past_end r.objects (length r.objects + k) (omega arith)),
        )

pub job_is_of_reading : JobIsOfReading
job_is_of_reading = λ j g count names closed new.
    let one : AreOne (job_named j (names_from (length (reading_of g count).objects + 1) (flat_of (reading_of g count))) (flat_of (reading_of g count))) (job_named j names g) =
    jobs_see_readings j g count (names_from (length (reading_of g count).objects + 1) (flat_of (reading_of g count))) names closed (numbers_are_new (reading_of g count)) new in
    let same : length (names_from (length (reading_of g count).objects + 1) (flat_of (reading_of g count))) ≡ length names =
    (numbers_are_new (reading_of g count)).count
    ∙ ap (λ (p : Params). 5 * objects_in p) (params_alike (Stands (met g count)) (numbers_pair g count closed) (flat_of (reading_of g count)) g (reading_stands g count closed))
    ∙ sym new.count in (
      one.answer,
      one.left (length (reading_of g count).objects + length (names_from (length (reading_of g count).objects + 1) (flat_of (reading_of g count))))
          ∙ ap (λ (n : ℕ). reading_of (job_named j names g).left (length (reading_of g count).objects + n)) same,
    )
