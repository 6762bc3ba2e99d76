-- A file that grows at its end, where it tells its bytes.
use Rattle.std.proofs.Common.{◌≡◌, ℕ, ◌+◌, ◌-◌, ◌*◌, ◌≤◌, List, [], ◌++◌, replicate, Option, Some, None, option_map, refl, ap, sym, ◌∙◌, append_assoc, arith}
use Rattle.pm3_types.specs.PageOne.{zeros}
use Rattle.std.proofs.lemmas.List.{append-nil, replicate-append-replicate}

-- more bytes behind the first
pub then_more : (first more : List ℕ) (before mid now : Option (List ℕ)) → mid ≡ option_map (λ _. first) before → now ≡ option_map (λ bytes. bytes ++ more) mid → now ≡ option_map (λ _. first ++ more) before
then_more first more before mid now earlier later = later ∙ ap (option_map (λ bytes. bytes ++ more)) earlier ∙ joined before
  where
    joined : (content : Option (List ℕ)) → option_map (λ bytes. bytes ++ more) (option_map (λ _. first) content) ≡ option_map (λ _. first ++ more) content
    joined None = refl
    joined (Some bytes) = refl

-- no free page yet
pub none_free : (content : Option (List ℕ)) → content ≡ option_map (λ bytes. bytes ++ zeros (4096 * (3 - 3))) content
unfolding zeros
none_free None = refl
none_free (Some bytes) = ap Some (sym (append-nil bytes))

more_zeros : (number : ℕ) → 3 ≤ number → zeros (4096 * (number - 3)) ++ zeros 4096 ≡ zeros (4096 * (number + 1 - 3))
unfolding zeros
more_zeros number few =
    let count : 4096 * (number - 3) + 4096 ≡ 4096 * (number + 1 - 3) = omega arith in
    replicate-append-replicate (4096 * (number - 3)) 4096 0 ∙ ap (λ (n : ℕ). replicate n 0) count

-- one free page more
pub one_more_free : (before mid now : Option (List ℕ)) (number : ℕ) → 3 ≤ number → mid ≡ option_map (λ bytes. bytes ++ zeros (4096 * (number - 3))) before → now ≡ option_map (λ bytes. bytes ++ zeros 4096) mid → now ≡ option_map (λ bytes. bytes ++ zeros (4096 * (number + 1 - 3))) before
one_more_free before mid now number few earlier later = later ∙ ap (option_map (λ bytes. bytes ++ zeros 4096)) earlier ∙ joined before
  where
    joined : (content : Option (List ℕ)) → option_map (λ bytes. bytes ++ zeros 4096) (option_map (λ bytes. bytes ++ zeros (4096 * (number - 3))) content) ≡ option_map (λ bytes. bytes ++ zeros (4096 * (number + 1 - 3))) content
    joined None = refl
    joined (Some bytes) = ap Some (append_assoc bytes _ _ ∙ ap (λ (more : List ℕ). bytes ++ more) (more_zeros number few))

-- four pieces, one behind the other, of which the first three are known by equations
pub four_pieces : (first second third last one two three : List ℕ) (start none some more most all : Option (List ℕ)) → one ≡ first → two ≡ second → three ≡ third → none ≡ option_map (λ _. []) start → some ≡ option_map (λ bytes. bytes ++ one) none → more ≡ option_map (λ bytes. bytes ++ two) some → most ≡ option_map (λ bytes. bytes ++ three) more → all ≡ option_map (λ bytes. bytes ++ last) most → all ≡ option_map (λ _. first ++ second ++ third ++ last) start
four_pieces first second third last one two three start none some more most all is_first is_second is_third emptied with_one with_two with_three with_last =
    then_more (first ++ second ++ third) last start most all (then_more (first ++ second) third start more most (then_more first second start some more (then_more [] first start none some emptied
    (with_one ∙ ap (λ (piece : List ℕ). option_map (λ bytes. bytes ++ piece) none) is_first)) (with_two ∙ ap (λ (piece : List ℕ). option_map (λ bytes. bytes ++ piece) some) is_second)) (with_three ∙ ap (λ (piece : List ℕ). option_map (λ bytes. bytes ++ piece) more) is_third)) with_last
