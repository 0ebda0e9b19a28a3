use Rattle.std.proofs.Common.{rules, ◌≡◌, ◌+◌, drop, sym, ap, ◌∙◌}
use Rattle.pi_dex.specs.declared.walk_rules.Faults.{Faults}
use Rattle.pi_dex.specs.Judged.{walk_place, index_place, payload_place, both_faults}
use Rattle.pi_dex.proofs.Codes.{codes_lie}
use Rattle.pi_dex.proofs.Faults.{faults_of, faults_go, faults_end}
use Rattle.pi_dex.proofs.Items.{in_codes}
use Rattle.pi_dex.proofs.walk_rules.walk_rules.Goals as goal

pub code_faults-requires : goal.code_faults-requires
code_faults-requires c = codes_lie c.args.raw.now c.args.codes.now c.requires.codes c.requires.code c.loop-i.i 0 (search rules)

pub loop-i-preserved : goal.loop-i-preserved
loop-i-preserved c =
    let file = c.args.raw.now in
    let codes = c.args.codes.now in
    ap (λ (f : Faults). both_faults f (faults_of file (drop (c.loop-i.i + 1) codes))) (c.both-lowest.ensures ∙ ap (both_faults c.loop-i.lowest) c.in_ok-code_faults.ensures)
    ∙ faults_go file c.loop-i.lowest codes c.loop-i.i (search rules)
    ∙ c.loop-i.invariant

pub returns-clause-walk : goal.returns-clause-walk
returns-clause-walk c =
    let file = c.args.raw.now in
    let codes = c.args.codes.now in
    let found : c.loop-i.lowest ≡ faults_of file codes = sym (faults_end file c.loop-i.lowest codes c.loop-i.i (search rules)) ∙ c.loop-i.invariant in
    ap (λ (f : Faults). f.walk) found ∙ in_codes (walk_place file) file codes c.requires.codes

pub returns-clause-index : goal.returns-clause-index
returns-clause-index c =
    let file = c.args.raw.now in
    let codes = c.args.codes.now in
    let found : c.loop-i.lowest ≡ faults_of file codes = sym (faults_end file c.loop-i.lowest codes c.loop-i.i (search rules)) ∙ c.loop-i.invariant in
    ap (λ (f : Faults). f.index) found ∙ in_codes (index_place file) file codes c.requires.codes

pub returns-clause-payload : goal.returns-clause-payload
returns-clause-payload c =
    let file = c.args.raw.now in
    let codes = c.args.codes.now in
    let found : c.loop-i.lowest ≡ faults_of file codes = sym (faults_end file c.loop-i.lowest codes c.loop-i.i (search rules)) ∙ c.loop-i.invariant in
    ap (λ (f : Faults). f.payload) found ∙ in_codes (payload_place file) file codes c.requires.codes
