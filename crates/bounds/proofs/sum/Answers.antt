-- The total sum on each way, and with it the laws that it keeps. Assumes nothing.
use Rattle.std.proofs.Common.{◌≡◌, ◌-◌, ◌^◌, ℤ, ◌≤ℤ◌, ◌∙◌, arith}
use Rattle.std.proofs.lemmas.Int.{ints}
use Rattle.theory.specs.Bound.{NoLarger, sum}
use Rattle.bounds.specs.Meaning.{bound_of, number_of, total_sum, Moderate}
use Rattle.bounds.proofs.Laws.{sum_never_sharper, sum_exact, sum_commutes, sum_ordered}
use Rattle.bounds.proofs.sum.Goals as goal

-- What the contract says of the result r. All of it follows from the value.
abbrev Says : ℤ → ℤ → ℤ → Type 0
Says a b r = record {
  value : r ≡ total_sum a b;
  never_sharper : NoLarger (sum (bound_of a) (bound_of b)) (bound_of r);
  exact : Moderate a → Moderate b → bound_of r ≡ sum (bound_of a) (bound_of b);
  commutes : r ≡ total_sum b a;
  ordered : (c d : ℤ) → a ≤ℤ c → b ≤ℤ d → r ≤ℤ total_sum c d;
}

says : (a b r : ℤ) → r ≡ total_sum a b → Says a b r
says a b r e = record {
  value = e;
  never_sharper = rw e (sum_never_sharper a b);
  exact = λ p q. rw e (sum_exact (2 ^ 62 - 1) (2 ^ 62 - 1) a b (omega arith) p q);
  commutes = e ∙ sum_commutes a b;
  ordered = λ c d p q. rw e (sum_ordered a b c d p q);
}

pub returns-then-a-eq-NONE : goal.returns-then-a-eq-NONE
unfolding total_sum number_of bound_of
returns-then-a-eq-NONE c = says c.args.a c.args.b _ (grind (arith, ints))

pub returns-then-b-eq-NONE : goal.returns-then-b-eq-NONE
unfolding total_sum number_of bound_of
returns-then-b-eq-NONE c = says c.args.a c.args.b _ (grind (arith, ints))

pub returns-then-b-a : goal.returns-then-b-a
unfolding total_sum number_of bound_of
returns-then-b-a c = says c.args.a c.args.b _ (grind (arith, ints))

pub returns-else-b-a : goal.returns-else-b-a
unfolding total_sum number_of bound_of
returns-else-b-a c = says c.args.a c.args.b _ (grind (arith, ints))

pub returns-then-b-a-2 : goal.returns-then-b-a-2
unfolding total_sum number_of bound_of
returns-then-b-a-2 c = says c.args.a c.args.b _ (grind (arith, ints))

pub returns-else-b-a-2 : goal.returns-else-b-a-2
unfolding total_sum number_of bound_of
returns-else-b-a-2 c = says c.args.a c.args.b _ (grind (arith, ints))
