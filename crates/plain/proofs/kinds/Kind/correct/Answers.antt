use Rattle.std.proofs.Common.{T, sym, refl, subst}
use Rattle.plain.specs.Words.{Near}
use Rattle.plain.proofs.Blocks.{none_repeated, fitting, unfitting, other_kinds}
use Rattle.plain.proofs.kinds.Kind.correct.Goals as goal

pub returns-then-is_of : goal.returns-then-is_of
returns-then-is_of g c = fitting (g.met.F.Field.lawful c.args.f.now) c.args.block.now c.requires.within c.requires.all c.args.self (subst T c.if-is_of.ensures tt)

pub returns-else-is_of : goal.returns-else-is_of
returns-else-is_of g c =
    (refl, refl, unfitting (g.met.F.Field.lawful c.args.f.now) c.args.block.now c.requires.within c.requires.all c.args.self (other_kinds c.args.self c.in-Every.is) (λ t. subst T (sym c.if-is_of.ensures) t))

pub returns-in_default : goal.returns-in_default
returns-in_default g c =
    (refl, refl, λ w near. none_repeated (g.met.F.Field.lawful c.args.f.now) c.args.block.now c.requires.within c.requires.all c.in_default.ensures w (subst (λ k. Near (g.F.Field.meaning c.args.f.now) k c.args.block.now w) c.in-Repeated.is near))
