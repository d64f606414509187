use Rattle.std.proofs.Common.{inl, refl}
use Rattle.session_trial.proofs.http_session_tests.EchoDesk.answer.Goals as goal

pub returns-then-eq-clause-err : goal.returns-then-eq-clause-err
returns-then-eq-clause-err c = inl refl

pub returns-in-Err-clause-err : goal.returns-in-Err-clause-err
returns-in-Err-clause-err c = inl refl
