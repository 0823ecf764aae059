use Rattle.std.proofs.Common.{◌≡◌, ◌+◌, drop, is_some, ap, ◌∙◌, rules}
use Rattle.std.proofs.lemmas.Iterator.{YieldsList-from_slice}
use Rattle.std.proofs.lemmas.Iterator.Adapters.{YieldsList-from_skip}
use Rattle.std.proofs.lemmas.Iterator.Search.{position_from_yields_List}
use Rattle.std.specs.List.{position}
use Rattle.std.specs.Option.{option_map, option_or}
use Rattle.draft.proofs.kinds.Draft.past_gauge.Goals as goal
use borrow.Author.Tests.{tests}

pub returns : goal.returns
returns c =
    let places = c.args.self.now.places in
    let found : c.position.result ≡ position is_some (drop c.args.count places) =
    position_from_yields_List is_some _ _ c.position.result c.position.ensures.ran
    (YieldsList-from_skip c.args.count (YieldsList-from_slice places cc) cc) (λ x b q k. search (rules, tests)) in
    let mapped : c.map.result ≡ option_map (λ k. c.args.count + k) c.position.result = search rules in
    c.or.ensures ∙ ap (λ o. option_or o c.args.self.now.past) (mapped ∙ ap (option_map (λ k. c.args.count + k)) found)
