use Rattle.std.proofs.Common.{rules, ℕ, Bool, List, not, ap, ◌∙◌, ◌&&◌}
use Rattle.std.proofs.lemmas.Fn.{filter_same}
use Rattle.std.specs.FinSet as set_of
use Rattle.std.specs.Ordering.{nat_cmp}
use Rattle.pm3_access.specs.FreeList.{FreeList}
use Rattle.pm3_access.specs.Parts.{is_filled}
use Rattle.pm3_access.proofs.FreeLists.{kept}
use Rattle.pm3_access.proofs.free_pages.FreePages.take_filled.Goals as goal

pub returns-clause-pages : goal.returns-clause-pages
returns-clause-pages c p =
    let keeps : ℕ → Bool = λ q. not (is_filled c.args.volatile.now.images c.args.written.now.images q) in
    ap (λ (ks : List ℕ). set_of.contains (set_of.from_list {R = nat_cmp} ks) p) (filter_same _ keeps _ (λ x b f' told. (search rules, search rules)) _ _ c.retain.ensures.filtered) ∙ kept keeps c.self.inside.pages.items p
    ∙ ap (λ (f : FreeList). set_of.contains f.pages p && keeps p) c.self.view_is
