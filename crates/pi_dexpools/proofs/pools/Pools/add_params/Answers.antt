use Rattle.std.proofs.Common.{◌≡◌, ◌+◌, ◌++◌, ◌∷◌, ℕ, List, drop, map, ap, sym, ◌∙◌}
use Rattle.std.proofs.lemmas.List.{drop_more}
use Rattle.pi_model.specs.declared.numbers.NameNo.{NameNo}
use Rattle.pi_contents.specs.Named.{text_in, no_name}
use Rattle.pi_dexpools.specs.Gathered.{type_place, with_types}
use Rattle.pi_dexpools.proofs.Grown.{grown_trans}
use Rattle.pi_dexpools.proofs.There.{types_step, places_step}
use Rattle.pi_dexpools.proofs.pools.Pools.add_params.Goals as goal

pub loop-i-preserved : goal.loop-i-preserved
loop-i-preserved c =
    let ps : List NameNo = c.args.params.now in
    let rest : List (List ℕ) = map (text_in c.args.prog.now) (drop (c.loop-i.i + 1) ps) in
    let split : map (text_in c.args.prog.now) (drop c.loop-i.i ps) ≡ c.units_of.result.now ∷ rest =
    ap (map (text_in c.args.prog.now)) (drop_more ps c.loop-i.i no_name c.loop-i-test.true) ∙ ap (λ t. t ∷ rest) (sym c.units_of.ensures) in
    let whole : with_types c.loop-i.self (c.units_of.result.now ∷ rest) ≡ with_types c.args.self.now (map (text_in c.args.prog.now) ps) =
    ap (with_types c.loop-i.self) (sym split) ∙ c.loop-i.invariant.gathered in
    record {
      gathered = types_step c.loop-i.self c.add_param.new.self _ c.units_of.result.now rest c.in-Ok.ensures.gathered whole;
      places =
          places_step c.loop-i.self c.add_param.new.self _ c.units_of.result.now rest c.loop-i.places c.add_param.new.places _ c.in-Ok.ensures.gathered c.in-Ok.ensures.there whole c.in-Ok.ensures.places
          (ap (λ ts. c.loop-i.places ++ map (type_place (with_types c.args.self.now (map (text_in c.args.prog.now) ps))) ts) (sym split) ∙ c.loop-i.invariant.places);
      grown = grown_trans c.args.self.now c.loop-i.self c.add_param.new.self c.loop-i.invariant.grown c.in-Ok.ensures.grown;
    }
