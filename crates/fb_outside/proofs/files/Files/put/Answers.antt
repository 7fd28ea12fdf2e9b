use Rattle.std.proofs.Common.{sym, ap, subst, ◌∙◌, arith}
use Rattle.fb_outside.specs.Files.{AreFiles, with_file}
use Rattle.fb_outside.proofs.Filing.{files_after_put, same_place, put_found, put_new, place_within}
use Rattle.fb_outside.proofs.files.Files.put.Goals as goal

pub returns-then-is_at-clause-ok : goal.returns-then-is_at-clause-ok
returns-then-is_at-clause-ok c =
    let files = c.self.inside.files.items in
    let name = c.args.file.name in
    let at = same_place files c.deref.result.now name c.as_bytes.result.now c.place_of-at.result c.deref.ensures.value c.as_bytes.ensures c.place_of-at.ensures in
    c.replace.ensures
    ∙ put_found files c.deref-2.result.now name c.as_bytes-2.result.now c.args.file.bytes c.place_of-at.result c.args.file c.deref-2.ensures.value c.as_bytes-2.ensures
    c.is_at.result at c.if-is_at.true c.is_at.ensures.within c.is_at.ensures.same
    ∙ ap (λ fs. with_file fs name c.args.file.bytes) c.self.view_is

pub invariant_of-self : goal.invariant_of-self
invariant_of-self c =
    let files = c.self.inside.files.items in
    let name = c.args.file.name in
    let put = returns-then-is_at-clause-ok c ∙ ap (λ fs. with_file fs name c.args.file.bytes) (sym c.self.view_is) in
    subst AreFiles (sym put) (files_after_put files name c.args.file.bytes c.self.invariant)

pub insert-requires : goal.insert-requires
insert-requires c =
    let files = c.self.inside.files.items in
    let name = c.args.file.name in
    let at = same_place files c.deref.result.now name c.as_bytes.result.now c.place_of-at.result c.deref.ensures.value c.as_bytes.ensures c.place_of-at.ensures in
    let within = place_within files name in
    omega (arith, at, within)

pub returns-in_ok-insert-clause-ok : goal.returns-in_ok-insert-clause-ok
returns-in_ok-insert-clause-ok c =
    let files = c.self.inside.files.items in
    let name = c.args.file.name in
    let at = same_place files c.deref.result.now name c.as_bytes.result.now c.place_of-at.result c.deref.ensures.value c.as_bytes.ensures c.place_of-at.ensures in
    c.in_ok-insert.ensures.items
    ∙ put_new files c.deref-2.result.now name c.as_bytes-2.result.now c.args.file.bytes c.place_of-at.result c.args.file c.deref-2.ensures.value c.as_bytes-2.ensures
    c.is_at.result at c.if-is_at.false c.is_at.ensures.same
    ∙ ap (λ fs. with_file fs name c.args.file.bytes) c.self.view_is

pub invariant_of-self-in-Continue-1 : goal.invariant_of-self-in-Continue-1
invariant_of-self-in-Continue-1 c =
    let files = c.self.inside.files.items in
    let name = c.args.file.name in
    let put = returns-in_ok-insert-clause-ok c ∙ ap (λ fs. with_file fs name c.args.file.bytes) (sym c.self.view_is) in
    subst AreFiles (sym put) (files_after_put files name c.args.file.bytes c.self.invariant)

pub returns-then-is_at-clause-files : goal.returns-then-is_at-clause-files
returns-then-is_at-clause-files c = invariant_of-self c

pub returns-in_ok-insert-clause-files : goal.returns-in_ok-insert-clause-files
returns-in_ok-insert-clause-files c = invariant_of-self-in-Continue-1 c
