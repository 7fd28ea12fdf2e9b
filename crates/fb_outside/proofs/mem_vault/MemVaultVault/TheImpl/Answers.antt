use Rattle.std.proofs.Common.{◌≡◌, rules, List, None, inl, ap, ◌∙◌}
use Rattle.std.proofs.lemmas.Result.{on_ok_weaker, IfErr-at_err}
use Rattle.fb_outside.specs.Files.{File, AreFiles, with_file, without_file}
use Rattle.fb_outside.specs.Told.{in_order, told_in_order}
use Rattle.fb_outside.proofs.Telling.{told_after}
use Rattle.fb_outside.proofs.mem_vault.MemVaultVault.TheImpl.Goals as goal

never : (files : List File) → AreFiles files → in_order files ≡ None → ⊥
never files h e = let t = told_in_order files h in cc

pub put-tells : goal.put-tells
put-tells x c =
    let put = λ (files : List File). with_file files c.args.name.now c.args.bytes.now in
    record {
      put = on_ok_weaker c.result (λ e told t. told_after put c.args.self.now.files c.new.self.now.files told c.ensures.ordered e t) c.ensures.put;
      failed = λ e told t. inl (ap in_order (IfErr-at_err _ e c.ensures.stays) ∙ t);
      silent = λ e. absurd (never c.args.self.now.files c.ensures.was_ordered e);
      no_memory = λ e. ap in_order (IfErr-at_err _ e c.ensures.stays);
      count = search rules;
      called = search rules;
    }

pub delete-tells : goal.delete-tells
delete-tells x c =
    let delete = λ (files : List File). without_file files c.args.name.now in
    record {
      deleted = on_ok_weaker c.result (λ e told t. told_after delete c.args.self.now.files c.new.self.now.files told c.ensures.ordered e t) c.ensures.deleted;
      failed = λ e told t. inl (ap in_order (IfErr-at_err _ e c.ensures.stays) ∙ t);
      silent = λ e. absurd (never c.args.self.now.files c.ensures.was_ordered e);
      no_memory = λ e. ap in_order (IfErr-at_err _ e c.ensures.stays);
      count = search rules;
      called = search rules;
    }
