-- Before each instruction, what is left to be said and put makes the whole (`Turn`).
use Rattle.assembler.proofs.Translating.{Turn}
use Rattle.assembler.proofs.translator.translate.Given as goal

abbrev pub invariant-loop-i : goal.invariant-loop-i
invariant-loop-i l = Turn l.text l.notes l.initial.out l.n l.flaw l.out l.i
