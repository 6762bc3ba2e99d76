-- What was written is read.
use Rattle.std.proofs.Common.{◌≡◌, ◌<◌, ℕ, List, Bool, true, false, cond, Option, None, Some, Ok, refl, ap, subst, ◌∙◌, length, nat_lt}
use Rattle.std.specs.Prelude.{◌&&◌, not, slice_get, IfOk}
use Rattle.std.specs.Cmp.{nat_cmp_total, eq_by_cmp_equiv}
use Rattle.std.specs.FinMap.{get, insert, get-insert}
use Rattle.std.proofs.lemmas.Bool.Decides.{nat_tests}
use Rattle.std.proofs.Common.{arith}
use Rattle.std.proofs.lemmas.List.{length-set, get_or-set_same}
use Rattle.pm3_types.specs.declared.places.Place.{Place}
use Rattle.pm3_types.specs.declared.places.Place.TheVariants as places
use Rattle.pm3_types.specs.Fields.{Fields, is_reference, has_refs, has_bytes}
use Rattle.pm3_types.specs.Record.{Record}
use Rattle.pm3_types.specs.Places.{is_place, is_place_of, is_place_by, value_at, with_value}
use Rattle.pm3_types.specs.Graph.{Part}
use Rattle.pm3_graph.specs.Operation.{Outcome, read_of, write_of, step_if, with_record}
use Rattle.pm3_graph.specs.StepLaws.{WritesStand}
use Rattle.pm3_graph.proofs.Keeping.{write_holds, and_first}

and_second : (a b : Bool) → a && b ≡ true → b ≡ true
and_second true b is = is
and_second false b is = cc

below : (m n : ℕ) → nat_lt m n ≡ true → m < n
below m n is = grind (arith, nat_tests)

same_type : (r : Record) (place : Place) (v : ℕ) → (with_value r place v).ty ≡ r.ty
same_type r (places.Word f) v = refl
same_type r (places.Reference f) v = refl
same_type r (places.TailRef k) v = refl
same_type r (places.Byte k) v = refl

-- the place is still there, and has the value
place_kept_of : (map : Fields) (r : Record) (place : Place) (v : ℕ) → is_place_of map r place ≡ true → is_place_of map (with_value r place v) place ≡ true
place_kept_of map r (places.Word f) v is = ap (λ (n : ℕ). nat_lt f n && not (is_reference map f)) (length-set r.fields f v) ∙ is
place_kept_of map r (places.Reference f) v is = ap (λ (n : ℕ). nat_lt f n && is_reference map f) (length-set r.fields f v) ∙ is
place_kept_of map r (places.TailRef k) v is = ap (λ (n : ℕ). has_refs map.tail && nat_lt k n) (length-set r.tail k v) ∙ is
place_kept_of map r (places.Byte k) v is = ap (λ (n : ℕ). has_bytes map.tail && nat_lt k n) (length-set r.tail k v) ∙ is

place_kept : (o : Option Fields) (r : Record) (place : Place) (v : ℕ) → is_place_by o r place ≡ true → is_place_by o (with_value r place v) place ≡ true
place_kept None r place v is = cc
place_kept (Some map) r place v is = place_kept_of map r place v is

value_of_place : (map : Fields) (r : Record) (place : Place) (v : ℕ) → is_place_of map r place ≡ true → value_at (with_value r place v) place ≡ v
value_of_place map r (places.Word f) v is = get_or-set_same r.fields f v 0 (below f (length r.fields) (and_first _ _ is))
value_of_place map r (places.Reference f) v is = get_or-set_same r.fields f v 0 (below f (length r.fields) (and_first _ _ is))
value_of_place map r (places.TailRef k) v is = get_or-set_same r.tail k v 0 (below k (length r.tail) (and_second (has_refs map.tail) _ is))
value_of_place map r (places.Byte k) v is = get_or-set_same r.tail k v 0 (below k (length r.tail) (and_second (has_bytes map.tail) _ is))

value_there : (o : Option Fields) (r : Record) (place : Place) (v : ℕ) → is_place_by o r place ≡ true → value_at (with_value r place v) place ≡ v
value_there None r place v is = cc
value_there (Some map) r place v is = value_of_place map r place v is

module _ (catalog : List Fields) (name : ℕ) (place : Place) (v : ℕ) where
  -- the read of the place answers the value
  abbrev Reads : Part → Type 0
  Reads h = read_of catalog h name place (get h.records name) ≡ Ok (v, h)

  step_as : (b : Bool) (a : ℕ) (h : Part) → b ≡ true → a ≡ v → step_if b a h ≡ Ok (v, h)
  step_as true a h is same = ap (λ (n : ℕ). Ok (n, h)) same
  step_as false a h is same = cc

  written : (g : Part) (r : Record) → get g.records name ≡ Some r → is_place catalog r place ≡ true → Reads (with_record g name (with_value r place v))
  written g r is there =
      let found : get (insert g.records name (with_value r place v)) name ≡ Some (with_value r place v) =
      get-insert nat_cmp_total g.records name (with_value r place v) name
      ∙ ap (λ (b : Bool). cond b (Some (with_value r place v)) (get g.records name)) ((eq_by_cmp_equiv nat_cmp_total).refl name) in
      ap (read_of catalog (with_record g name (with_value r place v)) name place) found
      ∙ step_as (is_place catalog (with_value r place v) place) (value_at (with_value r place v) place) _
      (ap (λ (ty : ℕ). is_place_by (slice_get catalog ty) (with_value r place v) place) (same_type r place v) ∙ place_kept (slice_get catalog r.ty) r place v there)
      (value_there (slice_get catalog r.ty) r place v there)

  read_after : (g h : Part) (answer : ℕ) → write_of catalog g name place v (get g.records name) ≡ Ok (answer, h) → Reads h
  read_after g h answer step =
      subst (λ (o : Outcome). IfOk o (λ s. Reads s.1)) step (write_holds Reads catalog g name place v (get g.records name) refl (written g))

pub writes_stand : WritesStand
writes_stand catalog name place v = (
  read_after catalog name (places.Word place) v,
  read_after catalog name (places.Reference place) v,
  read_after catalog name (places.TailRef place) v,
  read_after catalog name (places.Byte place) v,
)
