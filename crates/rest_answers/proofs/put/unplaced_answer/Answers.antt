use Rattle.std.proofs.Common.{◌≡◌, ℕ, List, Result, Ok, Err, IfOk, refl, sym, subst}
use Rattle.http_session.specs.Replies.{answer_of}
use Rattle.http_session.specs.Talk.{Answer}
use Rattle.http_session.specs.declared.reply.Reply.{Reply as Made}
use Rattle.ipam_data.specs.declared.replies.Refusal.TheVariants.{Method}
use Rattle.ipam_data.specs.declared.replies.Reply.{Reply}
use Rattle.ipam_data.specs.declared.replies.Reply.TheVariants.{Refused}
use Rattle.ipam_json.specs.declared.replies.Links.{Links}
use Rattle.rest_routes.specs.Answers.{IsRefusedAnswer, route_methods}
use Rattle.rest_answers.specs.Written.{IsUnplacedAnswer}
use Rattle.rest_answers.proofs.put.unplaced_answer.Goals as goal

told : (target : List ℕ) (reply : Reply) (links : Links) (answer : Answer) → reply ≡ Refused Method → IsRefusedAnswer target Method answer → IsUnplacedAnswer target reply links answer
told target reply links answer same (route, found, is) =
    subst (λ (r : Reply). IsUnplacedAnswer target r links answer) (sym same) (route_methods route, (route, found, refl), is)

mapped : {E : Type 0} (r : Result Made E) (P Q : Answer → Type 0) → ((a : Answer) → P a → Q a) → IfOk r (λ a. P (answer_of a)) → IfOk r (λ a. Q (answer_of a))
mapped (Ok made) P Q f h = f (answer_of made) h
mapped (Err error) P Q f h = tt

pub returns-then-is_method_refused-clause-answer : goal.returns-then-is_method_refused-clause-answer
returns-then-is_method_refused-clause-answer c =
    let target = c.args.target.now in
    let reply = c.args.reply.now in
    let links = c.args.links.now in
    mapped c.answer_of_refusal.result (IsRefusedAnswer target Method) (IsUnplacedAnswer target reply links)
    (λ (a : Answer) h. told target reply links a c.if-is_method_refused.ensures.is h) c.answer_of_refusal.ensures
