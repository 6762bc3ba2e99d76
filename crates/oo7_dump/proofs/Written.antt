-- Texts to which one more field or item was added.
use Rattle.std.proofs.Common.{◌≡◌, ◌<◌, ◌≤◌, ◌+◌, ◌-◌, ◌*◌, ◌/◌, ◌%◌, ◌++◌, ℕ, zero, suc, Bool, cond, List, [], ◌∷◌, map, refl, sym, ap, ◌∙◌, arith, append_assoc}
use Rattle.std.specs.Prelude.{codes, slice_index}
use Rattle.std.specs.Fmt.{decimal}
use Rattle.std.specs.List.{flat_map, range_with_len}
use Rattle.std.proofs.lemmas.Grind.{flat_map-append}
use Rattle.std.proofs.lemmas.List.{append-nil}
use Rattle.std.proofs.lemmas.List.FromFn.{map-range_with_len_more}
use Rattle.pm3_types.specs.Dump.{byte_text, fields_text, name_text}
use Rattle.pm3_types.specs.Fields.{Fields, is_reference}
use Rattle.pm3_types.specs.Shown.{byte_in, list_of}

-- one more field, before those that are left
pub field_more : (met : List ℕ) (m : Fields) (g : ℕ → ℕ) (f : ℕ) (b : Bool) (v : ℕ) (text now whole : List ℕ) → f < m.count → b ≡ is_reference m f → v ≡ g f
    → now ≡ text ++ (codes " " ++ cond b (codes "@" ++ name_text met v) (decimal v)) → text ++ fields_text met m f (map g (range_with_len f (m.count - f))) ≡ whole
    → now ++ fields_text met m (f + 1) (map g (range_with_len (f + 1) (m.count - (f + 1)))) ≡ whole
field_more met m g f b v text now whole within kind value put so_far =
    let rest = fields_text met m (f + 1) (map g (range_with_len (f + 1) (m.count - (f + 1)))) in
    let left : suc (m.count - (f + 1)) ≡ m.count - f = omega arith in
    ap (λ (l : List ℕ). l ++ rest) put
    ∙ append_assoc text (codes " " ++ cond b (codes "@" ++ name_text met v) (decimal v)) rest
    ∙ ap (λ (b : Bool). text ++ (codes " " ++ cond b (codes "@" ++ name_text met v) (decimal v) ++ rest)) kind
    ∙ ap (λ (n : ℕ). text ++ (codes " " ++ cond (is_reference m f) (codes "@" ++ name_text met n) (decimal n) ++ rest)) value
    ∙ ap (λ (n : ℕ). text ++ fields_text met m f (map g (range_with_len f n))) left
    ∙ so_far

-- one more item of a tail, behind the others
pub item_more : (F : ℕ → List ℕ) (g : ℕ → ℕ) (start text now : List ℕ) (k x : ℕ) → text ≡ start ++ flat_map F (list_of k g) → x ≡ g k → now ≡ text ++ F x
    → now ≡ start ++ flat_map F (list_of (k + 1) g)
item_more F g start text now k x so_far is put =
    let sum : 0 + k ≡ k = omega arith in
    put ∙ ap (λ (l : List ℕ). l ++ F x) so_far ∙ ap (λ (n : ℕ). start ++ flat_map F (list_of k g) ++ F n) is
    ∙ append_assoc start (flat_map F (list_of k g)) (F (g k))
    ∙ ap (λ (l : List ℕ). start ++ (flat_map F (list_of k g) ++ l)) (sym (append-nil (F (g k))))
    ∙ ap (λ (l : List ℕ). start ++ l) (sym (flat_map-append F (list_of k g) (g k ∷ [])))
    ∙ ap (λ (l : List ℕ). start ++ flat_map F l) (sym (map-range_with_len_more g 0 k k sum))

-- the first values of a function, and those behind them
list_split : (g : ℕ → ℕ) (a b : ℕ) → list_of (a + b) g ≡ list_of a g ++ list_of b (λ j. g (a + j))
list_split g a zero =
    let none : a + 0 ≡ a = omega arith in
    ap (λ (n : ℕ). list_of n g) none ∙ sym (append-nil (list_of a g))
list_split g a (suc b) =
    let sum : a + suc b ≡ a + b + 1 = omega arith in
    let next : suc b ≡ b + 1 = omega arith in
    let all : 0 + (a + b) ≡ a + b = omega arith in
    let some : 0 + b ≡ b = omega arith in
    ap (λ (n : ℕ). list_of n g) sum ∙ map-range_with_len_more g 0 (a + b) (a + b) all
    ∙ ap (λ (l : List ℕ). l ++ g (a + b) ∷ []) (list_split g a b)
    ∙ append_assoc (list_of a g) (list_of b (λ j. g (a + j))) (g (a + b) ∷ [])
    ∙ ap (λ (l : List ℕ). list_of a g ++ l) (sym (map-range_with_len_more (λ j. g (a + j)) 0 b b some))
    ∙ ap (λ (n : ℕ). list_of a g ++ list_of n (λ j. g (a + j))) (sym next)

list_same : (f g : ℕ → ℕ) (n : ℕ) → ((j : ℕ) → j < n → f j ≡ g j) → list_of n f ≡ list_of n g
list_same f g zero same = refl
list_same f g (suc n) same =
    let next : suc n ≡ n + 1 = omega arith in
    let some : 0 + n ≡ n = omega arith in
    ap (λ (k : ℕ). list_of k f) next ∙ map-range_with_len_more f 0 n n some
    ∙ ap (λ (l : List ℕ). l ++ f n ∷ []) (list_same f g n (λ j below. same j (omega arith)))
    ∙ ap (λ (k : ℕ). list_of n g ++ k ∷ []) (same n (omega arith))
    ∙ sym (map-range_with_len_more g 0 n n some) ∙ ap (λ (k : ℕ). list_of k g) (sym next)

abbrev tail_byte : List ℕ → ℕ → ℕ → ℕ
tail_byte words base k = byte_in (slice_index words (base + k / 8)) (k % 8)

-- bytes of one more word of a tail, behind those of the words before
pub bytes_more : (words : List ℕ) (base q n w : ℕ) (start text now : List ℕ) → n ≤ 8 → text ≡ start ++ flat_map byte_text (list_of (8 * q) (λ k. byte_in (slice_index words (base + k / 8)) (k % 8)))
    → w ≡ slice_index words (base + q) → now ≡ text ++ flat_map byte_text (list_of n (byte_in w))
    → now ≡ start ++ flat_map byte_text (list_of (8 * q + n) (λ k. byte_in (slice_index words (base + k / 8)) (k % 8)))
bytes_more words base q n w start text now few so_far is put =
    put ∙ ap (λ (l : List ℕ). l ++ flat_map byte_text (list_of n (byte_in w))) so_far
    ∙ append_assoc start (flat_map byte_text (list_of (8 * q) (tail_byte words base))) (flat_map byte_text (list_of n (byte_in w)))
    ∙ ap (λ (l : List ℕ). start ++ (flat_map byte_text (list_of (8 * q) (tail_byte words base)) ++ flat_map byte_text l)) same
    ∙ ap (λ (l : List ℕ). start ++ l) (sym (flat_map-append byte_text (list_of (8 * q) (tail_byte words base)) (list_of n (λ j. tail_byte words base (8 * q + j)))))
    ∙ ap (λ (l : List ℕ). start ++ flat_map byte_text l) (sym (list_split (tail_byte words base) (8 * q) n))
  where
    one : (j : ℕ) → j < n → byte_in w j ≡ tail_byte words base (8 * q + j)
    one j below =
        let word : q ≡ (8 * q + j) / 8 = omega arith in
        let place : j ≡ (8 * q + j) % 8 = omega arith in
        ap (λ (v : ℕ). byte_in v j) (is ∙ ap (λ (k : ℕ). slice_index words (base + k)) word) ∙ ap (byte_in (slice_index words (base + (8 * q + j) / 8))) place

    same : list_of n (byte_in w) ≡ list_of n (λ j. tail_byte words base (8 * q + j))
    same = list_same (byte_in w) (λ j. tail_byte words base (8 * q + j)) n one
