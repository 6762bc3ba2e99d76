-- Values that are let go one after another, from the last.
use Rattle.std.proofs.Common.{◌≡◌, ◌+◌, ◌-◌, ◌<◌, ◌≤◌, ℕ, zero, suc, true, false, List, [], ◌∷◌, ◌++◌, Option, Some, None, length, length-append, get_or, refl, sym, ap, ◌∙◌, arith}
use Rattle.pm3_txn.specs.declared.values.Turn.{Turn as Turns}
use Rattle.pm3_txn.specs.declared.values.Value.{Value}
use Rattle.pm3_txn.specs.declared.values.Value.TheVariants.{Turn}
use Rattle.pm3_txn.specs.Draining.{AreNoTurns, EndsWithTurn, HasTurnLast, AreDisksOf, is_turn}

module _ {A : Type 0} where
  pub at_last : (rest : List A) (x d : A) → get_or (rest ++ x ∷ []) (length rest) d ≡ x
  at_last [] x d = refl
  at_last (y ∷ ys) x d = at_last ys x d

  pub at_front : (rest : List A) (x d : A) (u : ℕ) → u < length rest → get_or (rest ++ x ∷ []) u d ≡ get_or rest u d
  at_front [] x d u low = absurd (omega (arith, low))
  at_front (y ∷ ys) x d zero low = refl
  at_front (y ∷ ys) x d (suc u) low = at_front ys x d u (omega (arith, low))

  pub one_more : (rest : List A) (x : A) → length (rest ++ x ∷ []) ≡ length rest + 1
  one_more rest x = length-append rest (x ∷ [])

module _ {D R : Type 0} where
  pub rest_no_turns : (items rest : List (Option (Value D R))) (slot : Option (Value D R)) (n : ℕ) → items ≡ rest ++ slot ∷ [] → length items ≤ n + 1 → AreNoTurns items n → AreNoTurns rest (length rest)
  rest_no_turns items rest slot n is short none u low =
      let long : length items ≡ length rest + 1 = ap (λ (l : List (Option (Value D R))). length l) is ∙ one_more rest slot in
      ap is_turn (sym (at_front rest slot None u low) ∙ ap (λ (l : List (Option (Value D R))). get_or l u None) (sym is)) ∙ none u (omega (arith, low, long, short))

  pub last_no_turn : (items rest : List (Option (Value D R))) (slot : Option (Value D R)) → items ≡ rest ++ slot ∷ [] → AreNoTurns items (length items) → is_turn slot ≡ false
  last_no_turn items rest slot is none =
      let long : length items ≡ length rest + 1 = ap (λ (l : List (Option (Value D R))). length l) is ∙ one_more rest slot in
      ap is_turn (sym (at_last rest slot None) ∙ ap (λ (l : List (Option (Value D R))). get_or l (length rest) None) (sym is)) ∙ none (length rest) (omega (arith, long))

  pub last_is : (homes rest : List (Option (Value D R))) (slot : Option (Value D R)) (turn : Turns D R) → homes ≡ rest ++ slot ∷ [] → EndsWithTurn homes turn → slot ≡ Some (Turn turn)
  last_is homes rest slot turn is ends =
      let long : length homes ≡ length rest + 1 = ap (λ (l : List (Option (Value D R))). length l) is ∙ one_more rest slot in
      sym (at_last rest slot None) ∙ ap (λ (l : List (Option (Value D R))). get_or l (length rest) None) (sym is)
      ∙ ap (λ (k : ℕ). get_or homes k None) (let e : length rest ≡ length homes - 1 = omega (arith, long) in e) ∙ ends.last

  pub others_are : (homes rest : List (Option (Value D R))) (slot : Option (Value D R)) → homes ≡ rest ++ slot ∷ [] → HasTurnLast homes → AreNoTurns rest (length rest)
  others_are homes rest slot is has = let some = has.1.some in rest_no_turns homes rest slot (length homes - 1) is (omega (arith, some)) has.1.others

  pub slot_is_turn : (homes rest : List (Option (Value D R))) (slot : Option (Value D R)) → homes ≡ rest ++ slot ∷ [] → HasTurnLast homes → is_turn slot ≡ true
  slot_is_turn homes rest slot is has = ap is_turn (last_is homes rest slot has.0 is has.1)

  turn_is : (a b : Turns D R) → Some (Turn a) ≡ Some (Turn b) → a ≡ b
  turn_is a b same = cc same

  pub disks_are : (homes rest : List (Option (Value D R))) (slot : Option (Value D R)) (turn : Turns D R) (disk : D) → homes ≡ rest ++ slot ∷ [] → slot ≡ Some (Turn turn) → disk ≡ turn.journal.disk → AreDisksOf turn.file disk homes
  disks_are homes rest slot turn disk is here same other ends =
      let one = turn_is turn other (sym here ∙ last_is homes rest slot other is ends) in
      (ap (λ (t : Turns D R). t.file) one, same ∙ ap (λ (t : Turns D R). t.journal.disk) one)
