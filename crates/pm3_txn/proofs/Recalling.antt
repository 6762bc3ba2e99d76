-- What a mutator knows of the words of its row stays known.
use Rattle.std.proofs.Common.{◌≡◌, ℕ, ◌<◌, Bool, true, false, List, ◌++◌, length, get_or, get_or-set_same, get_or-set_other, sym, ap, ◌∙◌, subst, inl, inr}
use Rattle.std.proofs.Math.ListN.{set}
use mathlib.Core.Logic.{dite}
use native.Mathlib.Decide.{ℕ_discrete}
use Rattle.pm3_core.specs.Machine.{put}
use Rattle.pm3_history.specs.Entry.{Done}
use Rattle.pm3_table.specs.declared.view.Told.{Told}
use Rattle.pm3_table.specs.declared.view.View.{View}
use Rattle.pm3_table.specs.Deeds.{word_of}
use Rattle.pm3_table.specs.Telling.{Lawful}
use Rattle.pm3_table.proofs.Put.{put_at, put_else}
use Rattle.pm3_txn.specs.Knowing.{KnowsObject, KnowsWord, Remembers, is_in_use}
use Rattle.pm3_txn.proofs.Seeing.{word_later}

-- what a row remembers stays so while the words stay and the view goes on
pub row_past : (told : Told) (v w : View) (between : List Done) (refs : List Bool) → w.seen ≡ v.seen ++ between → Lawful told w.seen
    → ((q : ℕ) → word_of w.log q ≡ word_of v.log q) → Remembers told v refs → Remembers told w refs
row_past told v w between refs seen lawful words known q is =
    subst (λ (a : ℕ). KnowsWord told w a) (sym (words q)) (word_later told v w between (word_of v.log q) seen lawful (known q is))

-- a view that has seen the same knows the same words
same_object : (told : Told) (v w : View) (a : ℕ) → w.seen ≡ v.seen → KnowsObject told v a → KnowsObject told w a
same_object told v w a seen knows =
    subst (λ (h : List Done). KnowsObject told (record v { seen = h }) a) (sym seen) knows

pub same_word : (told : Told) (v w : View) (a : ℕ) → w.seen ≡ v.seen → KnowsWord told v a → KnowsWord told w a
same_word told v w a seen (inl nil) = inl nil
same_word told v w a seen (inr knows) =
    inr (record { usable = ap (λ (h : List Done). is_in_use told h a) seen ∙ knows.usable; object = same_object told v w a seen knows.object })

-- a place that was stored under its tag, beside the others
pub row_put : (told : Told) (v w : View) (refs : List Bool) (place word : ℕ) (is_ref : Bool) → w.seen ≡ v.seen → place < length refs
    → ((q : ℕ) → word_of w.log q ≡ put (word_of v.log) place word q) → (is_ref ≡ true → KnowsWord told v word)
    → Remembers told v refs → Remembers told w (set refs place is_ref)
row_put told v w refs place word is_ref seen low words knows known q is =
    dite (ℕ_discrete q place)
    (λ here.
    let tagged : is_ref ≡ true = sym (ap (λ (k : ℕ). get_or (set refs place is_ref) k false) here ∙ get_or-set_same refs place is_ref false low) ∙ is in
    subst (λ (a : ℕ). KnowsWord told w a) (sym (words q ∙ put_at (word_of v.log) place word q here)) (same_word told v w word seen (knows tagged)))
    (λ other.
    let before : get_or refs q false ≡ true = sym (get_or-set_other refs place q is_ref false other) ∙ is in
    subst (λ (a : ℕ). KnowsWord told w a) (sym (words q ∙ put_else (word_of v.log) place word q other))
    (same_word told v w (word_of v.log q) seen (known q before)))
