use Rattle.std.proofs.Common.{◌≡◌, ◌∙◌, [], Bool, Err, Ok, OnErr, OnOk, Result, ap, if◌then◌else◌, rules, subst, sym, true}
use Rattle.std.specs.Io.KnownBytes.{Appends}
use Rattle.std.specs.Prelude.{int_lt, unsigned_abs}
use Rattle.execution.specs.Held.{world_of}
use Rattle.machine.specs.Written.{AppendsBeginning}
use Rattle.waveforms.specs.Instants.{world_before}
use Rattle.waveforms.specs.LastValues.{last_values, shown_by}
use Rattle.waveforms.specs.TimeWaves.{instant_text}
use Rattle.waveforms.proofs.instants.write_ended.Goals as goal

if_error : {T E P : Type 0} (result : Result T E) → P → OnErr result P
if_error (Ok value) p = tt
if_error (Err error) p = p

pub returns-clause-whole : goal.returns-clause-whole
returns-clause-whole g c =
    let w = world_of c.args.machine.now in
    let text = instant_text (unsigned_abs c.args.time) (last_values c.args.rows.now) (shown_by c.args.scopes.now c.args.rows.now (world_before c.args.time w)) in
    let later : int_lt c.args.time w.kernel.now ≡ true = search rules in
    let said : c.ended.new.self.text ≡ text = search rules in
    let is = c.text.ensures ∙ said ∙ ap (λ (b : Bool). if b then text else []) (sym later) in
    subst (λ t. OnOk c.write_all.result (Appends (g.S.Sink.bytes c.args.sink.now) (g.S.Sink.bytes c.write_all.new.sink) t)) is c.write_all.ensures.whole

pub returns-clause-beginning : goal.returns-clause-beginning
returns-clause-beginning g c =
    let w = world_of c.args.machine.now in
    let text = instant_text (unsigned_abs c.args.time) (last_values c.args.rows.now) (shown_by c.args.scopes.now c.args.rows.now (world_before c.args.time w)) in
    let later : int_lt c.args.time w.kernel.now ≡ true = search rules in
    let said : c.ended.new.self.text ≡ text = search rules in
    let is = c.text.ensures ∙ said ∙ ap (λ (b : Bool). if b then text else []) (sym later) in
    if_error c.write_all.result (subst (AppendsBeginning (g.S.Sink.bytes c.args.sink.now) (g.S.Sink.bytes c.write_all.new.sink)) is c.write_all.ensures.beginning)
