-- Bounds on a difference of two levels. Assumes nothing: these are definitions.
use Rattle.std.specs.Prelude.{Bool, false, cond, ℤ, pos, ◌+ℤ◌, ◌≤ℤ◌, int_lt}

-- A bound says by how much, at the most, one level is above another, or that there is none.
pub data Bound : Type 0 where
  none : Bound
  at_most : (c : ℤ) → Bound

-- A bound holds of a difference.
abbrev pub Holds : Bound → ℤ → Type 0
Holds none d = Unit
Holds (at_most c) d = d ≤ℤ c

-- The first bound is no larger than the second, where none is the largest.
abbrev pub NoLarger : Bound → Bound → Type 0
NoLarger b none = Unit
NoLarger none (at_most c) = ⊥
NoLarger (at_most a) (at_most b) = a ≤ℤ b

-- What two bounds, one after the other, say of the first level and the last.
abbrev pub sum : Bound → Bound → Bound
sum none c = none
sum (at_most a) none = none
sum (at_most a) (at_most b) = at_most (a +ℤ b)

-- The sharper of two bounds, and the looser.
abbrev pub sharper : Bound → Bound → Bound
sharper none c = c
sharper (at_most a) none = at_most a
sharper (at_most a) (at_most b) = cond (int_lt b a) (at_most b) (at_most a)

abbrev pub looser : Bound → Bound → Bound
looser none c = none
looser (at_most a) none = none
looser (at_most a) (at_most b) = cond (int_lt b a) (at_most a) (at_most b)

-- A level is 0 above itself.
abbrev pub zero_bound : Bound
zero_bound = at_most (pos 0)

-- Whether a level would be below itself.
abbrev pub negative : Bound → Bool
negative none = false
negative (at_most c) = int_lt c (pos 0)
