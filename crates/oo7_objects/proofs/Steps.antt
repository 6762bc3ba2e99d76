-- Steps on a whole graph, in the words in which designs are spoken of.
use Rattle.std.proofs.Common.{◌≡◌, ◌==◌, ◌++◌, ◌∙◌, ℕ, zero, suc, Bool, true, false, cond, List, [], ◌∷◌, Option, Some, None, is_some, refl, sym, ap, subst}
use Rattle.std.specs.Prelude.{Ok, slice_get}
use Rattle.std.proofs.lemmas.Bool.{cond-true, false≢true}
use Rattle.std.specs.Cmp.{nat_cmp_total, unsigned_tied}
use Rattle.std.specs.FinMap.{get, insert, get-insert}
use Rattle.pm3_types.specs.declared.places.Place.{Place}
use Rattle.pm3_types.specs.Fields.{Fields}
use Rattle.pm3_types.specs.Graph.{Part}
use Rattle.pm3_types.specs.Places.{is_place, is_place_by, value_at, with_value}
use Rattle.pm3_types.specs.Record.{Record}
use Rattle.pm3_graph.specs.Operation.{read_of, write_of, step_if, with_record}
use Rattle.oo7_schema.specs.Lookup.{listed_schema, set, set_in, value_in}
use Rattle.pm3_types.specs.declared.type_map.Tail.TheVariants.{Refs}
use Rattle.oo7_schema.specs.Schema.{class, schema}
use Rattle.oo7_objects.specs.Wholes.{HasPlace, IsLike, look_of}
use Rattle.oo7_objects.proofs.Runs.{answer_in, is_made, part_in}

-- what a step at a place that may be there tells
if_step : (b : Bool) (a answer : ℕ) (g w : Part) → step_if b a g ≡ Ok (answer, w) → (b ≡ true) × (a ≡ answer) × (g ≡ w)
if_step true a answer g w is = (refl, ap (answer_in a) is, ap (part_in g) is)
if_step false a answer g w is = absurd (false≢true (ap is_made is))

-- a read leaves the graph, and answers what stands at the place
record HasAnswered (catalog : List Fields) (v : Part) (n : ℕ) (place : Place) (answer : ℕ) (w : Part) : Type 0 where
  pub object : Record
  pub is : get v.records n ≡ Some object
  pub there : is_place catalog object place ≡ true
  pub value : value_at object place ≡ answer
  pub same : w ≡ v

read_facts : (catalog : List Fields) (v w : Part) (n answer : ℕ) (place : Place) → read_of catalog v n place (get v.records n) ≡ Ok (answer, w) → HasAnswered catalog v n place answer w
read_facts catalog v w n answer place is = of (get v.records n) refl is
  where
    of : (o : Option Record) → get v.records n ≡ o → read_of catalog v n place o ≡ Ok (answer, w) → HasAnswered catalog v n place answer w
    of None none e = absurd (false≢true (ap is_made e))
    of (Some r) on e = (let step = if_step (is_place catalog r place) (value_at r place) answer v w e in
        record { object = r; is = on; there = step.0; value = step.1; same = sym step.2 })

-- a write changes that place
record HasChanged (catalog : List Fields) (v : Part) (n : ℕ) (place : Place) (x : ℕ) (w : Part) : Type 0 where
  pub object : Record
  pub is : get v.records n ≡ Some object
  pub there : is_place catalog object place ≡ true
  pub now : w ≡ with_record v n (with_value object place x)

write_facts : (catalog : List Fields) (v w : Part) (n x answer : ℕ) (place : Place) → write_of catalog v n place x (get v.records n) ≡ Ok (answer, w) → HasChanged catalog v n place x w
write_facts catalog v w n x answer place is = of (get v.records n) refl is
  where
    of : (o : Option Record) → get v.records n ≡ o → write_of catalog v n place x o ≡ Ok (answer, w) → HasChanged catalog v n place x w
    of None none e = absurd (false≢true (ap is_made e))
    of (Some r) on e = (let step = if_step (is_place catalog r place) 0 answer (with_record v n (with_value r place x)) w e in
        record { object = r; is = on; there = step.0; now = sym step.2 })

-- a place of a class is one where a class more is listed
more_classes : (xs ys : List Fields) (k : ℕ) (map : Fields) → slice_get xs k ≡ Some map → slice_get (xs ++ ys) k ≡ Some map
more_classes [] ys k map is = absurd (false≢true (ap is_some is))
more_classes (x ∷ xs) ys zero map is = is
more_classes (x ∷ xs) ys (suc k) map is = more_classes xs ys k map is

pub listed_place : (r : Record) (place : Place) → is_place schema r place ≡ true → is_place listed_schema r place ≡ true
listed_place r place is = of (slice_get schema r.ty) refl is
  where
    of : (o : Option Fields) → slice_get schema r.ty ≡ o → is_place_by o r place ≡ true → is_place listed_schema r place ≡ true
    of None none e = absurd (false≢true e)
    of (Some map) on e = ap (λ (o : Option Fields). is_place_by o r place) (more_classes schema (class 0 0 Refs ∷ []) r.ty map on) ∙ e

value_there : (v : Part) (n answer : ℕ) (place : Place) (w : Part) → HasAnswered schema v n place answer w → value_in (look_of w n) place ≡ answer
value_there v n answer place w has =
    ap (λ (x : Part). value_in (look_of x n) place) has.same
    ∙ ap (λ (o : Option Record). value_in o place) has.is
    ∙ cond-true (is_place listed_schema has.object place) (value_at has.object place) 0 (listed_place has.object place has.there)
    ∙ has.value

-- a read on the whole tells what stands in it
pub read_told : (catalog : List Fields) (v w : Part) (n answer : ℕ) (place : Place) → catalog ≡ schema → read_of catalog v n place (get v.records n) ≡ Ok (answer, w)
    → (w ≡ v) × (value_in (look_of w n) place ≡ answer) × HasPlace w n place
read_told catalog v w n answer place classes is =
    let has = subst (λ (c : List Fields). HasAnswered c v n place answer w) classes (read_facts catalog v w n answer place is) in (
      has.same,
      value_there v n answer place w has,
      record { object = has.object; is = ap (λ (x : Part). get x.records n) has.same ∙ has.is; there = has.there },
    )

pub get_now : (v : Part) (n m : ℕ) (r : Record) → get (insert v.records n r) m ≡ cond (m == n) (Some r) (get v.records m)
get_now v n m r = get-insert nat_cmp_total v.records n r m ∙ ap (λ (b : Bool). cond b (Some r) (get v.records m)) (unsigned_tied m n)

-- a write on the whole changes one place
pub write_made : (catalog : List Fields) (v w : Part) (n x answer : ℕ) (place : Place) → catalog ≡ schema → write_of catalog v n place x (get v.records n) ≡ Ok (answer, w)
    → IsLike w (set (look_of v) n place x) v
write_made catalog v w n x answer place classes is =
    let has = subst (λ (c : List Fields). HasChanged c v n place x w) classes (write_facts catalog v w n x answer place is) in record {
      objects = λ m. ap (λ (y : Part). get y.records m) has.now ∙ get_now v n m (with_value has.object place x)
          ∙ ap (λ (o : Option Record). cond (m == n) o (get v.records m)) (sym (changed has.object has.there has.is));
      roots = ap (λ (y : Part). y.roots) has.now;
    }
  where
    changed : (r : Record) → is_place schema r place ≡ true → get v.records n ≡ Some r → set_in place x (get v.records n) ≡ Some (with_value r place x)
    changed r there on = ap (set_in place x) on ∙ ap Some (cond-true (is_place listed_schema r place) (with_value r place x) r (listed_place r place there))
