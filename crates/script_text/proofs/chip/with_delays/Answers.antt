use Rattle.std.proofs.Common.{◌≡◌, ◌∙◌, ap, sym, arith, [], ◌∷◌, true}
use Rattle.std.proofs.lemmas.Grind.{common_steps}
use Rattle.std.specs.Prelude.{string_bytes}
use Rattle.toml.specs.View.{members_view, view}
use Rattle.chip_base.specs.Settings.{values_of}
use Rattle.script_text.specs.ChipFile.{at_key, read_delay, read_delays, then_more}
use Rattle.script_text.specs.ChipRead.{read_view}
use Rattle.script_text.proofs.KeySteps.{delays_step, delays_end}
use Rattle.script_text.proofs.chip.with_delays.Goals as goal

pub loop-key-preserved : goal.loop-key-preserved
loop-key-preserved c =
    let k = c.in-Some.key.now in
    let x = c.in-Some.value.now in
    let v = values_of c.loop-key.setup in
    let iter : c.loop-key.key-iterator ≡ (k, x) ∷ c.next.new.self = grind (arith, common_steps) in
    let read : read_view c.at_key.result ≡ at_key true (string_bytes k) (read_delay (string_bytes k) (view x) v) = grind (arith, common_steps) in
    let step = delays_step c.loop-key.key-iterator c.next.new.self k x v (read_view c.at_key.result) iter read in
    record {
      can = tt;
      finite = tt;
      rest = sym (step ∙ ap (λ r. then_more (read_delays (members_view c.next.new.self)) (read_view r)) c.in-Ok.is) ∙ c.loop-key.invariant.rest;
    }

pub returns-in-Err : goal.returns-in-Err
returns-in-Err c =
    let k = c.in-Some.key.now in
    let x = c.in-Some.value.now in
    let v = values_of c.loop-key.setup in
    let iter : c.loop-key.key-iterator ≡ (k, x) ∷ c.next.new.self = grind (arith, common_steps) in
    let read : read_view c.at_key.result ≡ at_key true (string_bytes k) (read_delay (string_bytes k) (view x) v) = grind (arith, common_steps) in
    let step = delays_step c.loop-key.key-iterator c.next.new.self k x v (read_view c.at_key.result) iter read in
    sym (step ∙ ap (λ r. then_more (read_delays (members_view c.next.new.self)) (read_view r)) c.in-Err.is) ∙ c.loop-key.invariant.rest

pub returns : goal.returns
returns c =
    let none : c.loop-key.key-iterator ≡ [] = grind (arith, common_steps) in
    sym (delays_end (values_of c.loop-key.setup)) ∙ ap (λ i. read_delays (members_view i) (values_of c.loop-key.setup)) (sym none) ∙ c.loop-key.invariant.rest
