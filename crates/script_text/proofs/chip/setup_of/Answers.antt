use Rattle.std.proofs.Common.{◌≡◌, ◌∙◌, ap, sym, arith, [], ◌∷◌}
use Rattle.std.proofs.lemmas.Grind.{common_steps}
use Rattle.std.specs.Prelude.{string_bytes}
use Rattle.toml.specs.View.{members_view, view}
use Rattle.chip_base.specs.Settings.{values_of}
use Rattle.script_text.specs.ChipFile.{read_key, read_keys, then_more}
use Rattle.script_text.specs.ChipRead.{read_view}
use Rattle.script_text.proofs.KeySteps.{keys_step, keys_end}
use Rattle.script_text.proofs.chip.setup_of.Goals as goal

pub loop-key-preserved : goal.loop-key-preserved
loop-key-preserved c =
    let k = c.in-Some.key.now in
    let x = c.in-Some.value.now in
    let v = values_of c.loop-key.setup in
    let iter : c.loop-key.key-iterator ≡ (k, x) ∷ c.next.new.self = grind (arith, common_steps) in
    let read : read_view c.with_table_key.result ≡ read_key (string_bytes k) (view x) v = grind (arith, common_steps) in
    let step = keys_step c.loop-key.key-iterator c.next.new.self k x v (read_view c.with_table_key.result) iter read in
    record {
      can = tt;
      finite = tt;
      rest = sym (step ∙ ap (λ r. then_more (read_keys (members_view c.next.new.self)) (read_view r)) c.in-Ok.is) ∙ c.loop-key.invariant.rest;
    }

pub returns-in-Err : goal.returns-in-Err
returns-in-Err c =
    let k = c.in-Some.key.now in
    let x = c.in-Some.value.now in
    let v = values_of c.loop-key.setup in
    let iter : c.loop-key.key-iterator ≡ (k, x) ∷ c.next.new.self = grind (arith, common_steps) in
    let read : read_view c.with_table_key.result ≡ read_key (string_bytes k) (view x) v = grind (arith, common_steps) in
    let step = keys_step c.loop-key.key-iterator c.next.new.self k x v (read_view c.with_table_key.result) iter read in
    sym (step ∙ ap (λ r. then_more (read_keys (members_view c.next.new.self)) (read_view r)) c.in-Err.is) ∙ c.loop-key.invariant.rest

pub returns : goal.returns
returns c =
    let none : c.loop-key.key-iterator ≡ [] = grind (arith, common_steps) in
    sym (keys_end (values_of c.loop-key.setup)) ∙ ap (λ i. read_keys (members_view i) (values_of c.loop-key.setup)) (sym none) ∙ c.loop-key.invariant.rest
