use Rattle.std.proofs.Common.{◌≡◌, map}
use Rattle.bench_parts.specs.Attached.{first_named}
use Rattle.bench_parts.proofs.attachment.attach.Given as goal

-- the first of this name among the parts that are left is the first among all
abbrev pub invariant-loop-named : goal.invariant-loop-named
invariant-loop-named g l = record {
  can : (goal.iterator-loop-named g).can_next l.named-iterator;
  finite : (goal.iterator-loop-named g).is_finite l.named-iterator;
  first : first_named l.name (map
      (λ p. record { name = p.name; behave = (goal.Part-dyn g (p.part.vtable, p.part.value)).behave p.part.value }) l.named-iterator.rest.items)
      ≡ first_named l.name (map
      (λ p. record { name = p.name; behave = (goal.Part-dyn g (p.part.vtable, p.part.value)).behave p.part.value }) l.fn.parts.items);
}
