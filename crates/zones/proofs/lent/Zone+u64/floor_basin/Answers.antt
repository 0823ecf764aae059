use Rattle.std.proofs.Common.{◌≡◌, ◌+◌, ◌*◌, ◌≤◌, true, length, ap, ap₂, ◌∙◌, subst, arith}
use Rattle.std.proofs.lemmas.Bool.Decides.{nat_tests}
use Rattle.zones.specs.Lent.{number_at, smaller, above_zero}
use Rattle.zones.proofs.Flooring.{Column, column_skip, column_write, basin_floored}
use Rattle.zones.proofs.lent.Zone+u64.floor_basin.Goals as goal
use Rattle.zones.proofs.lent.Zone+u64.floor_basin.Goals.{then-i-j, else-i-j}

pub loop-i-preserved : goal.loop-i-preserved
loop-i-preserved c =
    let n = c.args.self.now.basins in let j = c.args.j in let i = c.loop-i.i in let ys = c.loop-i.self.numbers.now in
    let l = c.loop-i.invariant.lent in let t = c.loop-i.invariant.floored in
    let hj : j ≤ n = omega arith in let hi : i ≤ n = omega arith in let some : 1 ≤ j = omega arith in
    let low : 1 ≤ i = omega arith in
    let long : length ys ≡ (n + 1) * (n + 1) = c.loop-i.self.whole ∙ ap (λ m. (m + 1) * (m + 1)) l.0 in
    elim c.if-i-j.branch [
      | then-i-j w ↦
          let is = w.smaller_of-bound.ensures ∙ ap₂ smaller (rw l.0 at (w.at.ensures 0)) (rw l.0 at (w.at-then-i-j.ensures 0)) in
          let m = w.put.ensures.lent in
          let written = rw l.0 at w.put.ensures.written in
          rw w.self-is record {
            lent = (m.0 ∙ l.0, m.1 ∙ l.1);
            floored = rw written (column_write n j i _ ys some hj low hi t _ w.if-i-j.true long is);
          }
      | else-i-j w ↦ rw w.self-is record { lent = l; floored = column_skip n j i _ ys some hj low hi t w.if-i-j.false }
    ]

pub returns-clause-floored : goal.returns-clause-floored
returns-clause-floored c =
    let n = c.args.self.now.basins in let j = c.args.j in let xs = c.args.self.now.numbers.now in
    let ys = c.loop-i.self.numbers.now in let l = c.loop-i.invariant.lent in
    let end : c.loop-i.i ≡ n + 1 = omega arith in
    let long : length ys ≡ (n + 1) * (n + 1) = c.loop-i.self.whole ∙ ap (λ m. (m + 1) * (m + 1)) l.0 in
    let lowest = c.at-lowest.ensures 0 in
    let low : above_zero (number_at n xs 0 j) ≡ true = grind (arith, nat_tests) in
    let t = subst (λ i. Column n j i xs ys) end c.loop-i.invariant.floored in
    let written = rw l.0 at c.put-2.ensures.written in
    rw written (basin_floored n j xs ys (omega arith) (omega arith) long low t)
