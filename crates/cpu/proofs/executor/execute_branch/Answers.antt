-- The upper byte tells the condition, and the function of its flags whether it holds.
use Rattle.std.proofs.Common.{◌≡◌, ℕ, ◌+◌, ◌<◌, Bool, not, sym, ap, ◌∙◌, lit<, rules}
use mathlib.Core.Bool.{beq}
use Rattle.units.specs.Field.{field}
use Rattle.alu.specs.Alu.{condition_of}
use Rattle.alu.specs.Control.{flags_in}
use Rattle.alu.specs.declared.control.Control.{Control}
use Rattle.alu.proofs.Turned.{twice, lower, not_greater}
use Rattle.cpu.specs.declared.held.Executed.{Executed}
use Rattle.cpu.specs.declared.outcome.Outcome.TheVariants.{Completed}
use Rattle.cpu.specs.Held.{branched, Beside, branch_else}
use Rattle.cpu.proofs.Access.{Gave}
use Rattle.cpu.proofs.Formats.{branch_arm}
use Rattle.cpu.proofs.executor.execute_branch.Goals as goal

-- the arm of the n-th condition: its byte, whether it holds, and what the branch leaves
arm : (h : ℕ) → h < 65536 → {x : ℕ} → x ≡ field h 8 8 → (n : ℕ) → n < 14 → x ≡ 208 + n → (k : Control)
    → {test : Bool} {k' : Control} {e : Executed} → test ≡ condition_of n (flags_in k)
    → k' ≡ branched test (field h 0 8) k → Gave e k' Completed → Beside e k (branch_else h)
arm h fits told n small is k holds moves gave = branch_arm h fits n small (sym told ∙ is) k holds moves gave

pub returns-in-208 : goal.returns-in-208
returns-in-208 c =
    arm c.args.h (search rules) c.bits.ensures 0 (lit< tt) c.in-208.is c.args.k
    c.is_zero.ensures
    c.branch-k.ensures c.completed.ensures

pub returns-in-209 : goal.returns-in-209
returns-in-209 c =
    arm c.args.h (search rules) c.bits.ensures 1 (lit< tt) c.in-209.is c.args.k
    (ap not c.is_zero-in-209.ensures)
    c.branch-k-in-209.ensures c.completed-in-209.ensures

pub returns-in-210 : goal.returns-in-210
returns-in-210 c =
    arm c.args.h (search rules) c.bits.ensures 2 (lit< tt) c.in-210.is c.args.k
    c.is_carry.ensures
    c.branch-k-in-210.ensures c.completed-in-210.ensures

pub returns-in-211 : goal.returns-in-211
returns-in-211 c =
    arm c.args.h (search rules) c.bits.ensures 3 (lit< tt) c.in-211.is c.args.k
    (ap not c.is_carry-in-211.ensures)
    c.branch-k-in-211.ensures c.completed-in-211.ensures

pub returns-in-212 : goal.returns-in-212
returns-in-212 c =
    arm c.args.h (search rules) c.bits.ensures 4 (lit< tt) c.in-212.is c.args.k
    c.is_negative.ensures
    c.branch-k-in-212.ensures c.completed-in-212.ensures

pub returns-in-213 : goal.returns-in-213
returns-in-213 c =
    arm c.args.h (search rules) c.bits.ensures 5 (lit< tt) c.in-213.is c.args.k
    (ap not c.is_negative-in-213.ensures)
    c.branch-k-in-213.ensures c.completed-in-213.ensures

pub returns-in-214 : goal.returns-in-214
returns-in-214 c =
    arm c.args.h (search rules) c.bits.ensures 6 (lit< tt) c.in-214.is c.args.k
    c.is_overflow.ensures
    c.branch-k-in-214.ensures c.completed-in-214.ensures

pub returns-in-215 : goal.returns-in-215
returns-in-215 c =
    arm c.args.h (search rules) c.bits.ensures 7 (lit< tt) c.in-215.is c.args.k
    (ap not c.is_overflow-in-215.ensures)
    c.branch-k-in-215.ensures c.completed-in-215.ensures

pub returns-in-216 : goal.returns-in-216
returns-in-216 c =
    arm c.args.h (search rules) c.bits.ensures 8 (lit< tt) c.in-216.is c.args.k
    c.is_higher.ensures
    c.branch-k-in-216.ensures c.completed-in-216.ensures

pub returns-in-217 : goal.returns-in-217
returns-in-217 c =
    arm c.args.h (search rules) c.bits.ensures 9 (lit< tt) c.in-217.is c.args.k
    (ap not c.is_higher-in-217.ensures ∙ lower (flags_in c.args.k).c (flags_in c.args.k).z)
    c.branch-k-in-217.ensures c.completed-in-217.ensures

pub returns-in-218 : goal.returns-in-218
returns-in-218 c =
    arm c.args.h (search rules) c.bits.ensures 10 (lit< tt) c.in-218.is c.args.k
    (ap not c.is_less.ensures ∙ twice (beq (flags_in c.args.k).n (flags_in c.args.k).v))
    c.branch-k-in-218.ensures c.completed-in-218.ensures

pub returns-in-219 : goal.returns-in-219
returns-in-219 c =
    arm c.args.h (search rules) c.bits.ensures 11 (lit< tt) c.in-219.is c.args.k
    c.is_less-in-219.ensures
    c.branch-k-in-219.ensures c.completed-in-219.ensures

pub returns-in-220 : goal.returns-in-220
returns-in-220 c =
    arm c.args.h (search rules) c.bits.ensures 12 (lit< tt) c.in-220.is c.args.k
    c.is_greater.ensures
    c.branch-k-in-220.ensures c.completed-in-220.ensures

pub returns-in-221 : goal.returns-in-221
returns-in-221 c =
    arm c.args.h (search rules) c.bits.ensures 13 (lit< tt) c.in-221.is c.args.k
    (ap not c.is_greater-in-221.ensures
    ∙ not_greater (flags_in c.args.k).z (beq (flags_in c.args.k).n (flags_in c.args.k).v))
    c.branch-k-in-221.ensures c.completed-in-221.ensures
