use Rattle.std.proofs.Common.{◌≡◌, List, IfOk, subst}
use Rattle.prefix_list.specs.declared.routes.Entry.{Entry}
use Rattle.prefix_list.specs.Choices.{kept_of}
use Rattle.prefix_list.proofs.Picked.{outermost_kept}
use Rattle.prefix_list.proofs.routes.outermost.Goals as goal

pub returns : goal.returns
returns c =
    record {
      outermost =
          outermost_kept c.requires.0 c.args.blocks.now c.requires.1 c.in_ok-entries.ensures.lawful c.in_ok-entries.entries.items c.sort.new.entries.items c.sort.ensures.same c.sort.ensures.sorted
          (λ v. v.items) c.args.most c.kept.result c.in_ok-entries.ensures.entries
          (subst (λ (es : List Entry). IfOk c.kept.result (λ v. v.items ≡ kept_of es)) c.deref.ensures.value c.kept.ensures);
    }
