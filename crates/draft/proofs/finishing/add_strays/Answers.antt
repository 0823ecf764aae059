use Rattle.std.proofs.Common.{ℕ, suc, zero, ◌≡◌, ◌+◌, List, [], ◌∷◌, ◌++◌, length, drop, vec_items, rules, ap, ◌∙◌, refl, arith}
use Rattle.std.proofs.lemmas.Result.{on_ok_weaker}
use Rattle.std.proofs.lemmas.Iterator.{YieldsList-from_slice, YieldsList-from_range, YieldsList-from_zip}
use Rattle.std.proofs.lemmas.Iterator.Adapters.{YieldsList-from_skip, items_from_extend}
use Rattle.std.proofs.lemmas.Iterator.Consumers.{YieldsList-from_filter_map, YieldsList-at}
use Rattle.std.specs.List.{enumerate_from, filter_map, range_with_len, zip}
use Rattle.draft.specs.Finished.{stray_of}
use Rattle.draft.proofs.finishing.add_strays.Goals as goal
use borrow.Author.Tests.{tests}

-- a list beside the numbers from a on
numbered : {A : Type 0} (a n : ℕ) (xs : List A) → length xs ≡ n → zip (range_with_len a n) xs ≡ enumerate_from a xs
numbered a zero [] e = refl
numbered a (suc n) [] e = absurd (omega (arith, e))
numbered a zero (x ∷ xs) e = absurd (omega (arith, e))
numbered a (suc n) (x ∷ xs) e = ap (λ ys. (a, x) ∷ ys) (numbered (a + 1) n xs (omega (arith, e)))

pub returns : goal.returns
returns g c =
    let h = items_from_extend c.extend.result c.extend.ensures.ran (YieldsList-from_filter_map _ stray_of
    (YieldsList-at c.filter_map-past.ensures.source
    (YieldsList-from_skip c.args.count
    (YieldsList-at c.skip.ensures.source
    (YieldsList-from_zip (YieldsList-from_range 1 9 8 (cc) refl) (YieldsList-from_slice c.args.places.now cc))) c.skip.ensures.count))
    c.filter_map-past.ensures.closure (λ x r q k. search (rules, tests))) in
    on_ok_weaker c.extend.result (λ p. p.0 ∙ ap (λ ys. vec_items c.args.strays.now ++ filter_map stray_of (drop c.args.count ys))
    (numbered 1 8 c.args.places.now c.requires)) h
