use Rattle.std.proofs.Common.{◌∙◌, ap, sym}
use Rattle.toml.specs.View.{view}
use Rattle.chip_base.specs.Settings.{values_of}
use Rattle.script_text.specs.ChipFile.{read_plain, with_value}
use Rattle.script_text.proofs.Lists.{in_from, in_pages, in_to}
use Rattle.script_text.proofs.chip.with_key.Goals as goal

pub invariant_of-setup : goal.invariant_of-setup
invariant_of-setup c =
    let s = c.args.setup in
    let range = c.in_ok-setup-in-clock.ensures.range in
    record {
      clock_from = in_from 1 4294967295 1 _ range;
      clock_to = in_to 1 4294967295 1 _ range;
      imem_from = s.imem_from;
      imem_to = s.imem_to;
      imem_pages = s.imem_pages;
      dmem_from = s.dmem_from;
      dmem_to = s.dmem_to;
      dmem_pages = s.dmem_pages;
      prescaler_to = s.prescaler_to;
      baud_to = s.baud_to;
      lanes = s.lanes;
      delays = s.delays;
    }

pub invariant_of-setup-in-imem : goal.invariant_of-setup-in-imem
invariant_of-setup-in-imem c =
    let s = c.args.setup in
    let range = c.in_ok-setup-in-imem.ensures.range in
    record {
      clock_from = s.clock_from;
      clock_to = s.clock_to;
      imem_from = in_from 4096 1048576 4096 _ range;
      imem_to = in_to 4096 1048576 4096 _ range;
      imem_pages = in_pages 4096 1048576 4096 _ range;
      dmem_from = s.dmem_from;
      dmem_to = s.dmem_to;
      dmem_pages = s.dmem_pages;
      prescaler_to = s.prescaler_to;
      baud_to = s.baud_to;
      lanes = s.lanes;
      delays = s.delays;
    }

pub invariant_of-setup-in-dmem : goal.invariant_of-setup-in-dmem
invariant_of-setup-in-dmem c =
    let s = c.args.setup in
    let range = c.in_ok-setup-in-dmem.ensures.range in
    record {
      clock_from = s.clock_from;
      clock_to = s.clock_to;
      imem_from = s.imem_from;
      imem_to = s.imem_to;
      imem_pages = s.imem_pages;
      dmem_from = in_from 4096 1048576 4096 _ range;
      dmem_to = in_to 4096 1048576 4096 _ range;
      dmem_pages = in_pages 4096 1048576 4096 _ range;
      prescaler_to = s.prescaler_to;
      baud_to = s.baud_to;
      lanes = s.lanes;
      delays = s.delays;
    }

pub invariant_of-setup-in-prescaler : goal.invariant_of-setup-in-prescaler
invariant_of-setup-in-prescaler c =
    let s = c.args.setup in
    let range = c.in_ok-setup-in-prescaler.ensures.range in
    record {
      clock_from = s.clock_from;
      clock_to = s.clock_to;
      imem_from = s.imem_from;
      imem_to = s.imem_to;
      imem_pages = s.imem_pages;
      dmem_from = s.dmem_from;
      dmem_to = s.dmem_to;
      dmem_pages = s.dmem_pages;
      prescaler_to = in_to 0 7 1 _ range;
      baud_to = s.baud_to;
      lanes = s.lanes;
      delays = s.delays;
    }

pub invariant_of-setup-in-baud : goal.invariant_of-setup-in-baud
invariant_of-setup-in-baud c =
    let s = c.args.setup in
    let range = c.in_ok-setup-in-baud.ensures.range in
    record {
      clock_from = s.clock_from;
      clock_to = s.clock_to;
      imem_from = s.imem_from;
      imem_to = s.imem_to;
      imem_pages = s.imem_pages;
      dmem_from = s.dmem_from;
      dmem_to = s.dmem_to;
      dmem_pages = s.dmem_pages;
      prescaler_to = s.prescaler_to;
      baud_to = in_to 0 1023 1 _ range;
      lanes = s.lanes;
      delays = s.delays;
    }

pub invariant_of-setup-in-flash : goal.invariant_of-setup-in-flash
invariant_of-setup-in-flash c =
    let s = c.args.setup in
    record {
      clock_from = s.clock_from;
      clock_to = s.clock_to;
      imem_from = s.imem_from;
      imem_to = s.imem_to;
      imem_pages = s.imem_pages;
      dmem_from = s.dmem_from;
      dmem_to = s.dmem_to;
      dmem_pages = s.dmem_pages;
      prescaler_to = s.prescaler_to;
      baud_to = s.baud_to;
      lanes = s.lanes;
      delays = s.delays;
    }

pub returns-in_ok-setup-in-clock : goal.returns-in_ok-setup-in-clock
returns-in_ok-setup-in-clock c =
    let v = values_of c.args.setup in
    ap (with_value (λ n. record v { clock = n })) c.in_ok-setup-in-clock.ensures.value ∙ ap (λ k. read_plain k (view c.args.value.now) v) (sym c.in-clock.is)

pub returns-in_ok-setup-in-imem : goal.returns-in_ok-setup-in-imem
returns-in_ok-setup-in-imem c =
    let v = values_of c.args.setup in
    ap (with_value (λ n. record v { imem = n })) c.in_ok-setup-in-imem.ensures.value ∙ ap (λ k. read_plain k (view c.args.value.now) v) (sym c.in-imem.is)

pub returns-in_ok-setup-in-dmem : goal.returns-in_ok-setup-in-dmem
returns-in_ok-setup-in-dmem c =
    let v = values_of c.args.setup in
    ap (with_value (λ n. record v { dmem = n })) c.in_ok-setup-in-dmem.ensures.value ∙ ap (λ k. read_plain k (view c.args.value.now) v) (sym c.in-dmem.is)

pub returns-in_ok-setup-in-prescaler : goal.returns-in_ok-setup-in-prescaler
returns-in_ok-setup-in-prescaler c =
    let v = values_of c.args.setup in
    ap (with_value (λ n. record v { prescaler = n })) c.in_ok-setup-in-prescaler.ensures.value ∙ ap (λ k. read_plain k (view c.args.value.now) v) (sym c.in-prescaler.is)

pub returns-in_ok-setup-in-baud : goal.returns-in_ok-setup-in-baud
returns-in_ok-setup-in-baud c =
    let v = values_of c.args.setup in
    ap (with_value (λ n. record v { baud = n })) c.in_ok-setup-in-baud.ensures.value ∙ ap (λ k. read_plain k (view c.args.value.now) v) (sym c.in-baud.is)

pub returns-in_ok-setup-in-flash : goal.returns-in_ok-setup-in-flash
returns-in_ok-setup-in-flash c =
    let v = values_of c.args.setup in
    ap (with_value (λ n. record v { flash = n })) c.in_ok-setup-in-flash.ensures ∙ ap (λ k. read_plain k (view c.args.value.now) v) (sym c.in-flash.is)
