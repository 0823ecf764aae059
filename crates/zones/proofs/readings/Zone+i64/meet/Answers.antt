use Rattle.std.proofs.Common.{◌≡◌, ◌+◌, ◌*◌, length, set, pos, ◌-ℤ◌, neg_ℤ, sym, ap, ◌∙◌, subst, arith, w64, SFits, rules}
use Rattle.std.specs.Int.{int_min}
use Rattle.std.proofs.lemmas.Int.{ints, to_z-of_z}
use Rattle.zones.specs.Numbers.{cell}
use Rattle.zones.proofs.Cells.{place}
use Rattle.zones.proofs.Checked.{reading_ok}
use Rattle.zones.proofs.Meeting.{reads}
use Rattle.zones.proofs.Writing.{Met, met}
use Rattle.zones.proofs.readings.Zone+i64.meet.Goals as goal

pub returns-clause-far : goal.returns-clause-far
returns-clause-far c =
    let n = c.args.self.now.basins in let r = c.args.reading in let xs = c.args.self.now.numbers.now in
    let ys = c.meet_bound.new.self.numbers.now in let zs = c.meet_bound-2.new.self.numbers.now in
    let ok = reading_ok n r c.requires in
    let a = c.meet_bound.ensures.lent.0 in let b = c.meet_bound-2.ensures.lent.0 ∙ a in
    let h : SFits w64 r.high = search rules in
    let l : SFits w64 (pos 0 -ℤ r.low) = let k = ok.3 in let m = ok.2 in let q = ok.4 in omega (arith, ints) in
    let flip : pos 0 -ℤ r.low ≡ neg_ℤ r.low = omega (arith, ints) in
    let lo : SFits w64 r.low = search rules in
    let e : ys ≡ set xs (place n r.first r.second) (int_min (cell n xs r.first r.second) r.high) =
    simp (to_z-of_z, c.from-first.ensures, c.from-second.ensures) at c.meet_bound.ensures.met in
    let f : zs ≡ set ys (place n r.second r.first) (int_min (cell n ys r.second r.first) (neg_ℤ r.low)) =
    simp (a, to_z-of_z, c.from-first.ensures, c.from-second.ensures) at c.meet_bound-2.ensures.met
    ∙ ap (λ v. set ys (place n r.second r.first) (int_min (cell n ys r.second r.first) v)) flip in
    let long : length ys ≡ (n + 1) * (n + 1) = c.meet_bound.new.self.whole ∙ ap (λ m. (m + 1) * (m + 1)) a in
    let up : Met n r.first r.second r.high xs ys =
    subst (Met n r.first r.second r.high xs) (sym e)
    (met n xs r.first r.second r.high ok.0 ok.1 c.args.self.now.whole (let q = ok.4 in omega (arith, ints))) in
    let down : Met n r.second r.first (neg_ℤ r.low) ys zs =
    subst (Met n r.second r.first (neg_ℤ r.low) ys) (sym f)
    (met n ys r.second r.first (neg_ℤ r.low) ok.1 ok.0 long (let q = ok.3 in omega (arith, ints))) in
    reads n r xs ys zs _ ok.3 ok.2 ok.4 up down (rw b at c.close.ensures.far)
