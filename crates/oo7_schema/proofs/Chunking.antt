-- The chunks of a text as they are made are a text.
use Rattle.std.proofs.Common.{◌≡◌, ◌+◌, ◌-◌, ◌*◌, ◌/◌, ◌%◌, ◌^◌, ◌<◌, ◌≤◌, ℕ, zero, suc, List, [], ◌∷◌, ◌++◌, length, Bool, true, false, Option, Some, refl, sym, arith, ap, subst, ◌∙◌, map, take, drop, replicate, get_or, nat_lt, take-append-drop, drop-drop, length-append, length-take, length-drop}
use Rattle.std.specs.Prelude.{◌&&◌, codes, flat_map}
use Rattle.std.specs.List.{concat, list_all}
use Rattle.std.proofs.lemmas.Bool.Decides.{nat_tests}
use Rattle.std.proofs.lemmas.List.Folds.{list_all-append}
use Rattle.pm3_types.specs.declared.places.Place.TheVariants.{Reference}
use Rattle.pm3_types.specs.Fields.{Fields, is_reference, has_bytes}
use Rattle.pm3_types.specs.Record.{Record}
use Rattle.oo7_schema.specs.Lookup.{Look, value_in, tail_in, bytes}
use Rattle.oo7_schema.specs.Texts.{repeated, eight_digits, manual_line, document_line, chunk_count, IsChunk, AreChunks, HasText}
use Rattle.oo7_schema.proofs.Testing.{and_first, and_second}
use Rattle.oo7_schema.proofs.Deciding.{of_test, is_of}

-- all are bytes
abbrev pub AreBytes : List ℕ → Type 0
AreBytes bs = list_all (λ (b : ℕ). nat_lt b 256) bs ≡ true

both_hold : (a b : Bool) → a ≡ true → b ≡ true → a && b ≡ true
both_hold true b first second = second
both_hold false b first second = cc

joined_bytes : (xs ys : List ℕ) → AreBytes xs → AreBytes ys → AreBytes (xs ++ ys)
joined_bytes xs ys first second =
    list_all-append (λ (b : ℕ). nat_lt b 256) xs ys ∙ both_hold (list_all (λ (b : ℕ). nat_lt b 256) xs) (list_all (λ (b : ℕ). nat_lt b 256) ys) first second

pieces_bytes : (n : ℕ) (xs : List ℕ) → AreBytes xs → list_all (λ (b : ℕ). nat_lt b 256) (take n xs) && list_all (λ (b : ℕ). nat_lt b 256) (drop n xs) ≡ true
pieces_bytes n xs are = sym (list_all-append (λ (b : ℕ). nat_lt b 256) (take n xs) (drop n xs)) ∙ ap (list_all (λ (b : ℕ). nat_lt b 256)) (take-append-drop n xs) ∙ are

taken_bytes : (n : ℕ) (xs : List ℕ) → AreBytes xs → AreBytes (take n xs)
taken_bytes n xs are = and_first (list_all (λ (b : ℕ). nat_lt b 256) (take n xs)) (list_all (λ (b : ℕ). nat_lt b 256) (drop n xs)) (pieces_bytes n xs are)

dropped_bytes : (n : ℕ) (xs : List ℕ) → AreBytes xs → AreBytes (drop n xs)
dropped_bytes n xs are = and_second (list_all (λ (b : ℕ). nat_lt b 256) (take n xs)) (list_all (λ (b : ℕ). nat_lt b 256) (drop n xs)) (pieces_bytes n xs are)

repeated_bytes : (n : ℕ) (xs : List ℕ) → AreBytes xs → AreBytes (concat (replicate n xs))
repeated_bytes zero xs are = refl
repeated_bytes (suc n) xs are = joined_bytes xs (concat (replicate n xs)) are (repeated_bytes n xs are)

pub text_bytes : (line : List ℕ) (count : ℕ) → AreBytes line → AreBytes (repeated line count)
text_bytes line count are = taken_bytes count (concat (replicate (count / length line + 1) line)) (repeated_bytes (count / length line + 1) line are)

digit_byte : (d : ℕ) → nat_lt (48 + d % 10) 256 ≡ true
digit_byte d = grind (arith, nat_tests)

digits_bytes : (k : ℕ) (ps : List ℕ) → AreBytes (map (λ (p : ℕ). 48 + k / 10 ^ p % 10) ps)
digits_bytes k [] = refl
digits_bytes k (p ∷ ps) = both_hold (nat_lt (48 + k / 10 ^ p % 10) 256) (list_all (λ (b : ℕ). nat_lt b 256) (map (λ (q : ℕ). 48 + k / 10 ^ q % 10) ps)) (digit_byte (k / 10 ^ p)) (digits_bytes k ps)

pub document_bytes : (k : ℕ) → AreBytes (document_line k)
document_bytes k =
    joined_bytes (codes "I am the documentation for composite part " ++ eight_digits k) (codes ".\n")
    (joined_bytes (codes "I am the documentation for composite part ") (eight_digits k) refl (digits_bytes k (7 ∷ 6 ∷ 5 ∷ 4 ∷ 3 ∷ 2 ∷ 1 ∷ 0 ∷ []))) refl

pub manual_bytes : AreBytes manual_line
manual_bytes = refl

-- a chunk, written out
abbrev pub chunk : ℕ → List ℕ → Record
chunk next text = record { ty = 8; fields = next ∷ []; tail = text }

next_of_chunk : (next : ℕ) (text : List ℕ) → value_in (Some (chunk next text)) (Reference 0) ≡ next
unfolding is_reference
next_of_chunk next text = refl

one_chunk : (look : Look) (n next : ℕ) (text : List ℕ) → look n ≡ Some (chunk next text) → AreBytes text → 1 ≤ length text → length text ≤ 3072 → IsChunk look n
one_chunk look n next text is are some most = record {
  is = is_of look 8 n (ap (of_test 8) is ∙ are);
  some = subst (λ (o : Option Record). 1 ≤ length (tail_in (λ (m : Fields). has_bytes m.tail) o)) (sym is) some;
  most = subst (λ (o : Option Record). length (tail_in (λ (m : Fields). has_bytes m.tail) o) ≤ 3072) (sym is) most;
}

-- each of the chunks has its piece of the text, and the next one
abbrev pub HaveText : Look → List ℕ → List ℕ → Type 0
HaveText look cs text = (i : ℕ) → i < length cs → look (get_or cs i 0) ≡ Some (chunk (get_or cs (i + 1) 0) (take 3072 (drop (3072 * i) text)))

later_text : (look : Look) (c : ℕ) (cs text : List ℕ) → HaveText look (c ∷ cs) text → HaveText look cs (drop 3072 text)
later_text look c cs text have i low =
    let next : suc i + 1 ≡ suc (i + 1) = omega arith in
    let place : 3072 * suc i ≡ 3072 + 3072 * i = omega arith in
    have (suc i) (omega arith)
    ∙ (λ j. Some (chunk (get_or (c ∷ cs) (next j) 0) (take 3072 (drop (place j) text))))
    ∙ ap (λ (t : List ℕ). Some (chunk (get_or cs (i + 1) 0) (take 3072 t))) (sym (drop-drop (3072 * i) 3072 text))

taken_length : (text : List ℕ) (k : ℕ) → chunk_count (length text) ≡ suc k → (1 ≤ length (take 3072 text)) × (length (take 3072 text) ≤ 3072)
taken_length text k count = (omega (arith, length-take 3072 text, count), omega (arith, length-take 3072 text))

pub chunks_are : (look : Look) (cs text : List ℕ) → AreBytes text → chunk_count (length text) ≡ length cs → HaveText look cs text → AreChunks look (get_or cs 0 0) cs
chunks_are look [] text are count have = refl
chunks_are look (c ∷ cs) text are count have =
    let here : look c ≡ Some (chunk (get_or cs 0 0) (take 3072 text)) = have 0 (omega arith) in (
      refl,
      one_chunk look c (get_or cs 0 0) (take 3072 text) here (taken_bytes 3072 text are) (taken_length text (length cs) count).0 (taken_length text (length cs) count).1,
      subst (λ (n : ℕ). AreChunks look n cs) (sym (ap (λ (o : Option Record). value_in o (Reference 0)) here ∙ next_of_chunk (get_or cs 0 0) (take 3072 text)))
          (chunks_are look cs (drop 3072 text) (dropped_bytes 3072 text are) (omega (arith, count, length-drop 3072 text)) (later_text look c cs text have)),
    )

pub chunks_long : (look : Look) (cs text : List ℕ) → AreBytes text → chunk_count (length text) ≡ length cs → HaveText look cs text → length (flat_map (bytes look) cs) ≡ length text
chunks_long look [] text are count have = omega (arith, count)
chunks_long look (c ∷ cs) text are count have =
    let here : look c ≡ Some (chunk (get_or cs 0 0) (take 3072 text)) = have 0 (omega arith) in
    let own : length (bytes look c) ≡ length (take 3072 text) = ap (λ (o : Option Record). length (tail_in (λ (m : Fields). has_bytes m.tail) o)) here in
    let rest : length (flat_map (bytes look) cs) ≡ length (drop 3072 text) =
    chunks_long look cs (drop 3072 text) (dropped_bytes 3072 text are) (omega (arith, count, length-drop 3072 text)) (later_text look c cs text have) in
    length-append (bytes look c) (flat_map (bytes look) cs) ∙ omega (arith, own, rest, length-take 3072 text, length-drop 3072 text)

-- a list with a last item
record Ended (cs : List ℕ) : Type 0 where
  before : List ℕ
  is : cs ≡ before ++ get_or cs (length cs - 1) 0 ∷ []

ended : (c : ℕ) (cs : List ℕ) → Ended (c ∷ cs)
ended c [] = record { before = []; is = refl }
ended c (d ∷ cs) =
    let later : Ended (d ∷ cs) = ended d cs in
    let place : length (d ∷ cs) - 1 ≡ length cs = omega arith in
    let after : suc (length cs) ≡ length (c ∷ d ∷ cs) - 1 = omega arith in
    let last : get_or (d ∷ cs) (length (d ∷ cs) - 1) 0 ≡ get_or (c ∷ d ∷ cs) (length (c ∷ d ∷ cs) - 1) 0 = ap (λ (k : ℕ). get_or (d ∷ cs) k 0) place ∙ ap (λ (k : ℕ). get_or (c ∷ d ∷ cs) k 0) after in
    record { before = c ∷ later.before; is = ap (λ (xs : List ℕ). c ∷ xs) later.is ∙ ap (λ (n : ℕ). c ∷ (later.before ++ n ∷ [])) last }

pub has_text : (look : Look) (cs text : List ℕ) → AreBytes text → 1 ≤ length cs → chunk_count (length text) ≡ length cs → HaveText look cs text
    → HasText look (length text) (get_or cs 0 0) (get_or cs (length cs - 1) 0)
has_text look [] text are some count have = absurd (omega arith)
has_text look (c ∷ cs) text are some count have =
    let split : Ended (c ∷ cs) = ended c cs in
    record {
      before = split.before;
      are = subst (λ (ns : List ℕ). AreChunks look c ns) split.is (chunks_are look (c ∷ cs) text are count have);
      counted = ap (λ (ns : List ℕ). length (flat_map (bytes look) ns)) (sym split.is) ∙ chunks_long look (c ∷ cs) text are count have;
    }
