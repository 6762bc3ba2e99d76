use Rattle.std.proofs.Common.{rules, ◌≡◌, ◌+◌, ◌<◌, ℕ, length, get_or, ap, sym, ◌∙◌, arith}
use Rattle.std.specs.FinSet as set_of
use Rattle.std.specs.Ordering.{nat_cmp}
use Rattle.pm3_access.specs.FreeList.{FreeList}
use Rattle.pm3_access.proofs.FreeLists.{without, removed, shorter, there, none_below, nothing}
use Rattle.pm3_access.proofs.free_pages.FreePages.take_least.Goals as goal

pub returns-in_default-clause-least : goal.returns-in_default-clause-least
returns-in_default-clause-least c =
    let none : length c.self.inside.pages.items ≡ 0 = search rules in
    λ q le. ap (λ (f : FreeList). set_of.contains f.pages q) (sym c.self.view_is) ∙ nothing c.self.inside.pages.items q none

pub invariant_of-self : goal.invariant_of-self
invariant_of-self c =
    let items : c.deref.result.now ≡ c.self.inside.pages.items = search rules in
    let here = c.in-Some.ensures.0 in
    let long : here.0 < length c.self.inside.pages.items = omega (arith, here.1, ap length items) in
    let short = shorter c.in-Some.least c.self.inside.pages.items here.0 long (ap (λ ks. get_or ks here.0 c.in-Some.least) (sym items) ∙ here.2) in
    let others : length c.take_out.new.pages.items ≡ length (without c.in-Some.least c.self.inside.pages.items) = ap length c.take_out.ensures.others in
    let same = c.take_out.ensures.capacity in
    let before = c.self.invariant in
    omega arith

pub returns-clause-least : goal.returns-clause-least
returns-clause-least c =
    let items : c.deref.result.now ≡ c.self.inside.pages.items = search rules in
    let here = c.in-Some.ensures.0 in
    let view : (q : ℕ) → set_of.contains c.args.self.now.pages q ≡ set_of.contains (set_of.from_list {R = nat_cmp} c.deref.result.now) q =
    λ q. ap (λ (f : FreeList). set_of.contains f.pages q) (sym c.self.view_is) ∙ ap (λ ks. set_of.contains (set_of.from_list {R = nat_cmp} ks) q) (sym items) in
    record {
      reached = omega arith;
      there = view c.in-Some.least ∙ there c.in-Some.least c.deref.result.now here.0 here.1 here.2;
      least = λ q from lt. view q ∙ none_below c.deref.result.now c.in-Some.least q c.in-Some.ensures.1 lt;
    }

pub returns-clause-taken : goal.returns-clause-taken
returns-clause-taken c = (
  ap set_of.from_list c.take_out.ensures.others ∙ removed c.in-Some.least c.self.inside.pages.items ∙ ap (λ (f : FreeList). set_of.remove f.pages c.in-Some.least) c.self.view_is,
  ap (λ (f : FreeList). f.room + 1) c.self.view_is,
  ap (λ (f : FreeList). f.kept) c.self.view_is,
)
