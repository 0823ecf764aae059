-- The laws of zones. Each is a statement, whose proof is owed by a function that has it for its contract. Assumes nothing.
use Rattle.std.specs.Prelude.{◌≡◌, ℕ, ◌≤◌, true, ◌⊎◌, ℤ, ◌≤ℤ◌}
use Rattle.theory.specs.Bound.{Bound, none, at_most, Holds, NoLarger, sum, negative}
use Rattle.theory.specs.Level.{Levels, difference, Ranges, Within, Ordered, Rates, Moves}
use Rattle.theory.specs.Zone.{Zone, In, Empty, SameLevels, Closed, Canonical, Tame, first_zone, widen, floor, meet, relax, close}
use Rattle.theory.specs.History.{Reading, Right, meet_reading}

-- Each bound of a canonical zone is reached by levels of the zone; where there is none, they are as far apart as you like.
abbrev pub Reached : Type 0
Reached =
    (n : ℕ) (z : Zone) (i j : ℕ) (c : ℤ) → Canonical n z → i ≤ n → j ≤ n → z i j ≡ at_most c →
    (x : Levels) × In n z x × (difference x i j ≡ c)

abbrev pub Unbounded : Type 0
Unbounded =
    (n : ℕ) (z : Zone) (i j : ℕ) → Canonical n z → i ≤ n → j ≤ n → z i j ≡ none → (c : ℤ) →
    (x : Levels) × In n z x × (c ≤ℤ difference x i j)

-- Canonical zones with the same levels have the same bounds.
abbrev pub Unique : Type 0
Unique =
    (n : ℕ) (z y : Zone) → Canonical n z → Canonical n y → SameLevels n z y →
    (i j : ℕ) → i ≤ n → j ≤ n → z i j ≡ y i j

-- The first zone is canonical, and has just the levels within the ranges.
abbrev pub First : Type 0
First =
    (n : ℕ) (r : Ranges) → Ordered n r →
    Canonical n (first_zone r)
    × ((x : Levels) → (Within n r x → In n (first_zone r) x) × (In n (first_zone r) x → Within n r x))

-- A step takes the levels of a canonical zone to just the levels of the widened zone, which is closed. The floor and a
-- closing after it keep the levels, and leave the zone canonical.
abbrev pub Widening : Type 0
Widening =
    (n : ℕ) (r : Rates) (z : Zone) → Canonical n z →
    ((x y : Levels) → In n z x → Moves n r x y → In n (widen r z) y)
    × ((y : Levels) → In n (widen r z) y → (x : Levels) × In n z x × Moves n r x y)
    × Closed n (widen r z)
    × SameLevels n (widen r z) (floor (widen r z))
    × SameLevels n (widen r z) (close n (floor (widen r z)))
    × Canonical n (close n (floor (widen r z)))

-- To replace one bound, or each, by the sum through a third number where that is sharper keeps the levels.
abbrev pub Relaxing : Type 0
Relaxing =
    (n : ℕ) (z : Zone) (k : ℕ) → k ≤ n →
    ((i j : ℕ) → i ≤ n → j ≤ n → SameLevels n z (meet i j (sum (z i k) (z k j)) z)) × SameLevels n z (relax k z)

-- After the turns through all numbers the levels are the same, no bound is larger than it was, and the zone is closed; or
-- a number has a negative bound on itself, and there are no levels.
abbrev pub Closing : Type 0
Closing =
    (n : ℕ) (z : Zone) → Tame n z →
    SameLevels n z (close n z)
    × ((i j : ℕ) → i ≤ n → j ≤ n → NoLarger (close n z i j) (z i j))
    × (Closed n (close n z) ⊎ ((k : ℕ) × (k ≤ n) × (negative (close n z k k) ≡ true) × Empty n z))

-- To meet a bound takes away just the levels at which it does not hold; to meet a reading, those at which it is wrong.
abbrev pub Meeting : Type 0
Meeting =
    (n : ℕ) (z : Zone) (p q : ℕ) (b : Bound) → p ≤ n → q ≤ n → (x : Levels) →
    (In n z x → Holds b (difference x p q) → In n (meet p q b z) x)
    × (In n (meet p q b z) x → In n z x × Holds b (difference x p q))

abbrev pub MeetingReading : Type 0
MeetingReading =
    (n : ℕ) (z : Zone) (r : Reading) → r.first ≤ n → r.second ≤ n → (x : Levels) →
    (In n z x → Right r x → In n (meet_reading r z) x) × (In n (meet_reading r z) x → In n z x × Right r x)
