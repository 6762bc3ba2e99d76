-- Lists that are made an item at a time.
use Rattle.std.proofs.Common.{◌≡◌, ◌+◌, ◌<◌, ◌++◌, ℕ, Bool, true, false, cond, List, [], ◌∷◌, Option, Some, length, drop, get_or, sym, ap, ◌∙◌, add-one, arith, append_assoc}
use Rattle.std.specs.Prelude.{codes, slice_get}
use Rattle.std.specs.Fmt.{decimal}
use Rattle.std.proofs.Math.Seq.{drop-cons}
use Rattle.std.proofs.lemmas.Option.{get_or_from_slice_get, slice_get_within}
use Rattle.std.proofs.lemmas.List.FromFn.{map-range_with_len_more}
use Rattle.pm3_types.specs.Dump.{object_lines, record_text}
use Rattle.pm3_types.specs.Fields.{Fields}
use Rattle.pm3_types.specs.Record.{Record}
use Rattle.pm3_types.specs.Shown.{list_of}

-- one more value of a function
pub listed_more : (g : ℕ → ℕ) (items now : List ℕ) (k x : ℕ) → items ≡ list_of k g → now ≡ items ++ x ∷ [] → x ≡ g k → now ≡ list_of (k + 1) g
listed_more g items now k x before pushed is =
    let sum : 0 + k ≡ k = omega arith in
    pushed ∙ ap (λ (l : List ℕ). l ++ x ∷ []) before ∙ ap (λ (n : ℕ). list_of k g ++ n ∷ []) is ∙ sym (map-range_with_len_more g 0 k k sum)

-- an item that may be left out, before those behind it
pub choice_first : (b : Bool) (x : ℕ) (front rest now : List ℕ) → now ≡ front ++ cond b (x ∷ []) [] → now ++ rest ≡ front ++ cond b (x ∷ rest) rest
choice_first true x front rest now is = ap (λ (l : List ℕ). l ++ rest) is ∙ append_assoc front (x ∷ []) rest
choice_first false x front rest now is = ap (λ (l : List ℕ). l ++ rest) is ∙ append_assoc front [] rest

-- the rest of a list from a place on
pub drop_place : (xs : List ℕ) (i x : ℕ) → slice_get xs i ≡ Some x → drop i xs ≡ x ∷ drop (i + 1) xs
drop_place xs i x is =
    let within : i < length xs = slice_get_within xs i x is in
    let front : drop i xs ≡ get_or xs i 0 ∷ drop (i + 1) xs = rw (add-one, drop-cons xs i 0) in
    front ∙ ap (λ (n : ℕ). n ∷ drop (i + 1) xs) (get_or_from_slice_get xs i x 0 is)

-- one more line, before those behind it
pub line_more : (catalog : List Fields) (A : ℕ → Option Record) (met : List ℕ) (k a : ℕ) (text now rest : List ℕ)
    → now ≡ text ++ (decimal k ++ codes " " ++ record_text catalog met (A a) ++ codes "\n") → now ++ object_lines catalog A met (k + 1) rest ≡ text ++ object_lines catalog A met k (a ∷ rest)
line_more catalog A met k a text now rest put =
    ap (λ (l : List ℕ). l ++ object_lines catalog A met (k + 1) rest) put
    ∙ append_assoc text (decimal k ++ codes " " ++ record_text catalog met (A a) ++ codes "\n") (object_lines catalog A met (k + 1) rest)
