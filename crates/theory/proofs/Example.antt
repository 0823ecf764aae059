-- The worked example, computed. Assumes nothing.
use Rattle.std.proofs.Common.{◌≡◌, ℕ, zero, suc, List, [], ◌∷◌, ℤ, neg_ℤ, Some, Decides, refl, subst, arith, lit≤}
use borrow.Author.Differences.{ints}
use Rattle.theory.specs.Bound.{at_most}
use Rattle.theory.specs.Level.{Ordered}
use Rattle.theory.specs.History.{Placed}
use Rattle.theory.specs.Possible.{AlwaysWrong}
use Rattle.theory.specs.Computed.{upper_end, named}
use Rattle.theory.specs.Example.{ranges, so_far, listed, Names, Figures, Row, row_2, row_3, row_4, row_5, row_8, WorkedExample}
use Rattle.theory.proofs.Shown.{spans_of, level_spans, naming, no_history_told}

pub ordered : Ordered 2 ranges
ordered zero h = (lit≤ tt, omega (arith, ints))
ordered (suc i) h = (lit≤ tt, omega (arith, ints))

-- what is computed after k events of which each is placed
module _ (k : ℕ) (pl : Placed 2 (so_far k)) where
  name : (bs : List ℕ) (a : ℕ) → named 2 3 1 ranges (so_far k) a ≡ listed a bs →
      Decides (listed a bs) (AlwaysWrong 2 3 1 ranges (so_far k) a)
  name bs a e = subst (λ t. Decides t (AlwaysWrong 2 3 1 ranges (so_far k) a)) e (naming 2 3 1 ranges (so_far k) a ordered pl)

  abbrev Upper : ℕ → ℕ → ℤ → Type 0
  Upper i j c = upper_end 2 3 1 ranges (so_far k) i j ≡ Some (at_most c)

  row : (s : Figures) → Upper 1 0 s.one.1 → Upper 0 1 (neg_ℤ s.one.0) → Upper 2 0 s.two.1 →
      Upper 0 2 (neg_ℤ s.two.0) → Upper 1 2 s.less.1 → Upper 2 1 (neg_ℤ s.less.0) → Names k s.names → Row k s
  row s a b c d e f names = (
    level_spans 2 3 1 ranges (so_far k) ordered pl 1 (lit≤ tt) s.one.0 s.one.1 a b,
    level_spans 2 3 1 ranges (so_far k) ordered pl 2 (lit≤ tt) s.two.0 s.two.1 c d,
    spans_of 2 3 1 ranges (so_far k) ordered pl 1 2 (lit≤ tt) (lit≤ tt) s.less.0 s.less.1 e f,
    names,
  )

-- each reading is of levels of the plant
pub placed_2 : Placed 2 (so_far 2)
placed_2 = (lit≤ tt, lit≤ tt, (lit≤ tt, lit≤ tt, tt))

placed_3 : Placed 2 (so_far 3)
placed_3 = (lit≤ tt, lit≤ tt, placed_2)

placed_5 : Placed 2 (so_far 5)
placed_5 = (lit≤ tt, lit≤ tt, placed_3)

placed_8 : Placed 2 (so_far 8)
placed_8 = (lit≤ tt, lit≤ tt, (lit≤ tt, lit≤ tt, placed_5))

placed_10 : Placed 2 (so_far 10)
placed_10 = (lit≤ tt, lit≤ tt, (lit≤ tt, lit≤ tt, placed_8))

names : (k : ℕ) → Placed 2 (so_far k) → (bs : List ℕ) → named 2 3 1 ranges (so_far k) 0 ≡ listed 0 bs →
    named 2 3 1 ranges (so_far k) 1 ≡ listed 1 bs → named 2 3 1 ranges (so_far k) 2 ≡ listed 2 bs → Names k bs
names k pl bs e f g = (name k pl bs 0 e, (name k pl bs 1 f, (name k pl bs 2 g, tt)))

pub worked_example : WorkedExample
worked_example = (
  row 2 placed_2 row_2 refl refl refl refl refl refl (names 2 placed_2 row_2.names refl refl refl),
  row 3 placed_3 row_3 refl refl refl refl refl refl (names 3 placed_3 row_3.names refl refl refl),
  row 4 placed_3 row_4 refl refl refl refl refl refl (names 4 placed_3 row_4.names refl refl refl),
  row 5 placed_5 row_5 refl refl refl refl refl refl (names 5 placed_5 row_5.names refl refl refl),
  row 8 placed_8 row_8 refl refl refl refl refl refl (names 8 placed_8 row_8.names refl refl refl),
  (no_history_told 2 3 1 ranges (so_far 10) ordered placed_10).0 refl,
  names 10 placed_10 (0 ∷ 1 ∷ 2 ∷ []) refl refl refl,
)
