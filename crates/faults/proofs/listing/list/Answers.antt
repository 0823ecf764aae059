use Rattle.std.proofs.Common.{◌≡◌, ◌+◌, vec_items, sym, ap, ◌∙◌, subst, arith, rules, tests, ◌^◌, eqb, refl}
use Rattle.std.proofs.lemmas.Iterator.{YieldsList-from_range, YieldsList-from_map}
use Rattle.std.proofs.lemmas.Iterator.Adapters.{items_from_extend}
use Rattle.std.proofs.lemmas.Iterator.Consumers.{YieldsList-at, YieldsList-from_filter}
use Rattle.faults.specs.Sets.{Lists, size}
use Rattle.faults.proofs.Bits.{subsets}
use Rattle.faults.proofs.Order.{numbered, listing, listing_more, lists}
use Rattle.faults.proofs.listing.list.Goals as goal

pub loop-size-init : goal.loop-size-init
unfolding listing
loop-size-init c = c.new-sets.ensures.items

pub loop-size-preserved : goal.loop-size-preserved
loop-size-preserved c =
    let k = c.loop-size.size-counter in
    let added = items_from_extend c.extend.result c.extend.ensures.ran
    (YieldsList-from_filter _ (λ s. eqb (size s) k)
    (YieldsList-at c.filter-of_size.ensures.source (YieldsList-from_map _ numbered
    (YieldsList-at c.map.ensures.source (YieldsList-from_range 0 _ (2 ^ c.args.gauges) refl (subsets c.args.gauges c.requires.0)))
    c.map.ensures.closure (λ x r q k. search (rules, tests))))
    c.filter-of_size.ensures.closure (λ x b q k. search (rules, tests))) in
    let before = c.loop-size.invariant in
    let now = rw c.in_ok-extend.was at added in
    cc (now.0, listing_more k c.args.gauges)

pub returns : goal.returns
returns c =
    let end : c.loop-size.size-counter ≡ c.args.wrong + 1 = omega arith in
    let all : vec_items c.loop-size.sets ≡ listing (c.args.wrong + 1) c.args.gauges =
    c.loop-size.invariant ∙ ap (λ k. listing k c.args.gauges) end in
    subst (Lists c.args.wrong c.args.gauges) (sym all) (lists c.args.wrong c.args.gauges)
