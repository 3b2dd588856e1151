use Rattle.std.specs.Prelude.{◌≡◌, ◌≢◌}
use Rattle.std.specs.Process.{exit_status}
use Rattle.std.proofs.Common.{◌∙◌, arith}
use Rattle.intcalc.proofs.run_program.Goals as goal
use Rattle.intcalc.proofs.run_program.Goals.{in-Ok+in-Ok-run_args, in-Ok+in-Err-run_args, in-Err, in-Err-2}

pub returns-clause-line : goal.returns-clause-line
returns-clause-line g c = elim c.match-args.branch [
  | in-Ok+in-Ok-run_args w ↦ λ low.
      let status : exit_status c.from.result ≡ w.in-Ok-run_args.status = c.from.ensures ∙ w.status-is in
      let went : w.in-Ok-run_args.status ≢ 4 = λ four. omega arith in
      rw (status, w.out-is, w.in-Ok.is) (w.in-Ok-run_args.ensures.line went)
  | in-Ok+in-Err-run_args w ↦ λ low.
      let status : exit_status c.from.result ≡ 3 = c.from.ensures ∙ w.status-is ∙ w.put_no_memory.ensures.status in
      absurd (omega arith)
  | in-Err w ↦ λ low.
      let status : exit_status c.from.result ≡ 3 = c.from.ensures ∙ w.status-is ∙ w.put_no_memory-status.ensures.status in
      absurd (omega arith)
  | in-Err-2 w ↦ λ low.
      let status : exit_status c.from.result ≡ w.run-status.result = c.from.ensures ∙ w.status-is in
      let went : w.run-status.result ≢ 4 = λ four. omega arith in
      rw (status, w.out-is, w.in-Err.is) (w.run-status.ensures.line went)
]
