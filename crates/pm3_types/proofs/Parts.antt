-- Graphs and parts: what `with` leaves and adds.
use Rattle.std.proofs.Common.{◌≡◌, ℕ, List, [], ◌∷◌, Bool, true, false, cond, Option, None, Some, refl, sym, ap, ◌∙◌}
use Rattle.std.specs.Option.{option_or}
use Rattle.std.specs.Ordering.{nat_cmp, eq_by_cmp}
use Rattle.std.specs.Cmp.{nat_cmp_total}
use Rattle.std.specs.FinMap.{get, insert, entries, find, get-entries, get-insert, same_map, nat_cmp-IsAntisymmetric}
use Rattle.pm3_types.specs.Record.{Record}
use Rattle.pm3_types.specs.Graph.{Part, PartOf, Records, with_entries, with_part}

-- options with the same values are equal
pub same_option : {A : Type 0} (o p : Option A) → ((x : A) → o ≡ Some x → p ≡ Some x) → ((x : A) → p ≡ Some x → o ≡ Some x) → o ≡ p
same_option None None there back = refl
same_option None (Some y) there back = back y refl
same_option (Some x) p there back = sym (there x refl)

-- maps that answer alike are equal
pub same_records : (m n : Records) → ((q : ℕ) → get m q ≡ get n q) → m ≡ n
same_records m n alike = same_map nat_cmp_total nat_cmp-IsAntisymmetric m n alike

-- parts with the same records and roots are equal
pub same_part : (f g : Part) → ((q : ℕ) → get f.records q ≡ get g.records q) → f.roots ≡ g.roots → f ≡ g
same_part f g alike roots =
    let records : f.records ≡ g.records = same_records f.records g.records alike in
    λ i. record { records = records i; roots = roots i }

or_cond : {A : Type 0} (b : Bool) (x : A) (o p : Option A) → cond b (Some x) (option_or o p) ≡ option_or (cond b (Some x) o) p
or_cond true x o p = refl
or_cond false x o p = refl

get-with_entries : (m : Records) (es : List (ℕ × Record)) (q : ℕ) → get (with_entries m es) q ≡ option_or (find nat_cmp q es) (get m q)
get-with_entries m [] q = refl
get-with_entries m (e ∷ es) q =
    get-insert nat_cmp_total (with_entries m es) e.0 e.1 q
    ∙ ap (cond (eq_by_cmp nat_cmp q e.0) (Some e.1)) (get-with_entries m es q)
    ∙ or_cond (eq_by_cmp nat_cmp q e.0) e.1 (find nat_cmp q es) (get m q)

-- "g with l" has what l has, and else what g has
pub get-with_part : (g l : Part) (q : ℕ) → get (with_part g l).records q ≡ option_or (get l.records q) (get g.records q)
get-with_part g l q =
    get-with_entries g.records (entries l.records) q
    ∙ ap (λ (o : Option Record). option_or o (get g.records q)) (sym (get-entries l.records q))

-- l is part of "g with l"
pub part_of_with : (g l : Part) → PartOf l (with_part g l)
part_of_with g l = record {
  records = λ n r is. get-with_part g l n ∙ ap (λ (o : Option Record). option_or o (get g.records n)) is;
  roots = λ names is. ap (λ (o : Option (List ℕ)). option_or o g.roots) is;
}

or_part : {A : Type 0} (o p : Option A) → ((x : A) → o ≡ Some x → p ≡ Some x) → option_or o p ≡ p
or_part None p there = refl
or_part (Some x) p there = sym (there x refl)

-- what is part of g changes nothing in it
pub with_part-part : (f g : Part) → PartOf f g → with_part g f ≡ g
with_part-part f g part =
    same_part (with_part g f) g
    (λ q. get-with_part g f q ∙ or_part (get f.records q) (get g.records q) (part.records q))
    (or_part f.roots g.roots part.roots)

-- each part is part of itself, and a part of a part is part of the whole
pub part_of_itself : (f : Part) → PartOf f f
part_of_itself f = record { records = λ n r is. is; roots = λ names is. is }

pub part_of_part : (f g h : Part) → PartOf f g → PartOf g h → PartOf f h
part_of_part f g h fg gh = record {
  records = λ n r is. gh.records n r (fg.records n r is);
  roots = λ names is. gh.roots names (fg.roots names is);
}

-- a record put into l and then laid over g is a record put into "g with l"
pub with_part-insert : (g l : Part) (name : ℕ) (r : Record) (roots : Option (List ℕ))
    → (q : ℕ) → get (with_part g (record { records = insert l.records name r; roots = roots })).records q ≡ get (insert (with_part g l).records name r) q
with_part-insert g l name r roots q =
    get-with_part g (record { records = insert l.records name r; roots = roots }) q
    ∙ ap (λ (o : Option Record). option_or o (get g.records q)) (get-insert nat_cmp_total l.records name r q)
    ∙ sym (or_cond (eq_by_cmp nat_cmp q name) r (get l.records q) (get g.records q))
    ∙ ap (cond (eq_by_cmp nat_cmp q name) (Some r)) (sym (get-with_part g l q))
    ∙ sym (get-insert nat_cmp_total (with_part g l).records name r q)
