-- Which places an object of a class has, and that it stays of its class.
use Rattle.std.proofs.Common.{◌≡◌, ◌&&◌, ◌∙◌, inl, inr, ℕ, Bool, true, false, not, cond, nat_lt, length, length-set, Option, Some, refl, sym, ap}
use Rattle.std.specs.Prelude.{slice_get}
use Rattle.std.proofs.lemmas.Bool.{cases_eq, eq-eqb, ne_eqb}
use Rattle.std.proofs.lemmas.List.{length-replicate}
use Rattle.pm3_types.specs.declared.places.Place.{Place}
use Rattle.pm3_types.specs.declared.places.Place.TheVariants.{Word, Reference, TailRef, Byte}
use Rattle.pm3_types.specs.Fields.{Fields, is_reference}
use Rattle.pm3_types.specs.Graph.{Part}
use Rattle.pm3_types.specs.Places.{is_place, is_place_by, with_value}
use Rattle.pm3_types.specs.Record.{Record, blank}
use Rattle.pm3_history.proofs.Laying.{one_value, some_none}
use Rattle.oo7_schema.specs.Lookup.{listed_schema, set, set_in}
use Rattle.oo7_schema.specs.Schema.{schema}
use Rattle.oo7_objects.specs.Wholes.{HasNew, HasPlace, IsLike, IsOfClass, blank_by, look_of, new_object}

module _ (w : Part) (n class : ℕ) (map : Fields) (map_is : slice_get schema class ≡ Some map) (of : IsOfClass w n class) where
  class_map : slice_get schema of.object.ty ≡ Some map
  class_map = ap (slice_get schema) of.of ∙ map_is

  class_count : length of.object.fields ≡ map.count
  class_count = of.fields ∙ ap (λ (m : Fields). m.count) (one_value (slice_get schema class) of.map map of.map_is map_is)

  -- the words and the references of its class
  pub class_word : (f : ℕ) → (nat_lt f map.count && not (is_reference map f)) ≡ true → HasPlace w n (Word f)
  class_word f is = record {
    object = of.object;
    is = of.is;
    there = ap (λ (o : Option Fields). is_place_by o of.object (Word f)) class_map ∙ ap (λ (k : ℕ). nat_lt f k && not (is_reference map f)) class_count ∙ is;
  }

  pub class_reference : (f : ℕ) → (nat_lt f map.count && is_reference map f) ≡ true → HasPlace w n (Reference f)
  class_reference f is = record {
    object = of.object;
    is = of.is;
    there = ap (λ (o : Option Fields). is_place_by o of.object (Reference f)) class_map ∙ ap (λ (k : ℕ). nat_lt f k && is_reference map f) class_count ∙ is;
  }

-- a new object is of its class
pub class_new : (v w : Part) (n class tail : ℕ) (map : Fields) → slice_get schema class ≡ Some map → HasNew w n (new_object class tail) v → IsOfClass w n class
class_new v w n class tail map map_is has = record {
  object = blank map class tail;
  is = has.like.objects n ∙ ap (λ (b : Bool). cond b (Some (new_object class tail)) (look_of v n)) (eq-eqb n n refl) ∙ ap (λ (o : Option Fields). Some (blank_by o class tail)) map_is;
  of = refl;
  map = map;
  map_is = map_is;
  fields = length-replicate map.count 0;
}

-- and the others stay of theirs
pub class_beside : (v w : Part) (n m class : ℕ) (object : Record) → HasNew w n object v → IsOfClass v m class → IsOfClass w m class
class_beside v w n m class object has of = record {
  object = of.object;
  is = has.like.objects m ∙ ap (λ (b : Bool). cond b (Some object) (look_of v m)) (ne_eqb m n (λ e. some_none (look_of v n) of.object (ap (look_of v) (sym e) ∙ of.is) has.new)) ∙ of.is;
  of = of.of;
  map = of.map;
  map_is = of.map_is;
  fields = of.fields;
}

value_class : (r : Record) (place : Place) (x : ℕ) → ((with_value r place x).ty ≡ r.ty) × (length (with_value r place x).fields ≡ length r.fields)
value_class r (Word f) x = (refl, length-set r.fields f x)
value_class r (Reference f) x = (refl, length-set r.fields f x)
value_class r (TailRef k) x = (refl, refl)
value_class r (Byte k) x = (refl, refl)

-- whose places are written
pub class_written : (v w : Part) (n m class : ℕ) (place : Place) (x : ℕ) → IsLike w (set (look_of v) n place x) v → IsOfClass v m class → IsOfClass w m class
class_written v w n m class place x like of = elim (cases_eq m n) [
  | inl here ↦ by (is_place listed_schema of.object place) refl here
  | inr other ↦ record {
    object = of.object;
    is = like.objects m ∙ ap (λ (b : Bool). cond b (set_in place x (look_of v n)) (look_of v m)) (ne_eqb m n other) ∙ of.is;
    of = of.of;
    map = of.map;
    map_is = of.map_is;
    fields = of.fields;
  }
]
  where
    at : m ≡ n → look_of w m ≡ set_in place x (Some of.object)
    at here = like.objects m ∙ ap (λ (b : Bool). cond b (set_in place x (look_of v n)) (look_of v m)) (eq-eqb m n here) ∙ ap (λ (k : ℕ). set_in place x (look_of v k)) (sym here) ∙ ap (set_in place x) of.is

    by : (b : Bool) → is_place listed_schema of.object place ≡ b → m ≡ n → IsOfClass w m class
    by true is here = record {
      object = with_value of.object place x;
      is = at here ∙ ap (λ (b : Bool). Some (cond b (with_value of.object place x) of.object)) is;
      of = (value_class of.object place x).0 ∙ of.of;
      map = of.map;
      map_is = of.map_is;
      fields = (value_class of.object place x).1 ∙ of.fields;
    }
    by false is here = record {
      object = of.object;
      is = at here ∙ ap (λ (b : Bool). Some (cond b (with_value of.object place x) of.object)) is;
      of = of.of;
      map = of.map;
      map_is = of.map_is;
      fields = of.fields;
    }
