-- The sums over a backup's tasks in a bucket.
use Rattle.std.proofs.Common.{◌≡◌, ◌≢◌, ℕ, ◌+◌, ◌≤◌, true, cond, Some, ⊎_elim, refl, ap, ◌∙◌, arith, ◌==◌}
use Rattle.std.proofs.lemmas.Bool.{eq-eqb, ne_eqb, cases_Bool}
use Rattle.mutations.proofs.Basics.{by_test}
use Rattle.task_kinds.specs.Tasks.{SeenTask}
use Rattle.task_kinds.specs.Works.{BackupWork, Work, OfBackup, OfRestore, OfDr, of_backup, number_in, number_of}
use Rattle.task_bucket.specs.Laws.{SumsLaw}
use Rattle.task_bucket.specs.Leases.{after_finish}
use Rattle.task_bucket.specs.declared.Lease.{Lease}
use Rattle.task_bucket.specs.Lists.{Lists, is_leased}
use Rattle.task_bucket.specs.Sums.{load, weigh, of_job, of_uid, HasUidsOnce, task_at}
use Rattle.backup_core.specs.Laws.{BucketLaw}
use Rattle.backup_core.specs.Tasks.{IsLoad, HasTask, IsTaskOf, load_of}

-- ---- what one task counts

own_counts : (f : BackupWork → ℕ) (job : ℕ) (work : BackupWork) (uid : ℕ) (task : SeenTask) → IsTaskOf job work task → of_job job (of_backup f) uid task ≡ f work
own_counts f job work uid task t = ap (λ b. cond b (number_of (of_backup f) task) 0) (eq-eqb task.job job t.job_is) ∙ ap (number_in (of_backup f)) t.work_is

other_counts : (f : BackupWork → ℕ) (job uid : ℕ) (task : SeenTask) → task.job ≢ job → of_job job (of_backup f) uid task ≡ 0
other_counts f job uid task n = ap (λ b. cond b (number_of (of_backup f) task) 0) (ne_eqb task.job job n)

uid_below : (u : ℕ) (f : ℕ → SeenTask → ℕ) (uid : ℕ) (task : SeenTask) → of_uid u f uid task ≤ f uid task
uid_below u f uid task = by_test (uid == u) (λ n. n ≤ f uid task) (f uid task) 0 (λ e. omega arith) (λ e. omega arith)

backup_less : (f g : BackupWork → ℕ) → ((work : BackupWork) → f work ≤ g work) → (work : Work) → of_backup f work ≤ of_backup g work
backup_less f g h (OfBackup work) = h work
backup_less f g h (OfRestore work) = omega arith
backup_less f g h (OfDr work) = omega arith

backup_both : (f g : BackupWork → ℕ) (work : Work) → of_backup (λ x. f x + g x) work ≡ of_backup f work + of_backup g work
backup_both f g (OfBackup work) = refl
backup_both f g (OfRestore work) = refl
backup_both f g (OfDr work) = refl

module _ (law : SumsLaw) where
  sums_are : (job : ℕ) (lists : Lists) → IsLoad (load_of job lists)
  sums_are job lists = record {
    less = λ f g h. law.load_less job lists (of_backup f) (of_backup g) (backup_less f g h);
    sum = λ f g. ap (load job lists) (λ i work. backup_both f g work i) ∙ law.load_sum job lists (of_backup f) (of_backup g);
  }

  -- ---- the task of a uid

  module _ (lists : Lists) (uid : ℕ) (task : SeenTask) (once : HasUidsOnce lists) (at : task_at uid lists ≡ Some task) where
    uid_counts : (f : BackupWork → ℕ) (job : ℕ) → weigh (of_uid uid (of_job job (of_backup f))) lists ≡ of_job job (of_backup f) uid task
    uid_counts f job = (law.tasks lists once).at (of_job job (of_backup f)) uid task at

    has_is : (job : ℕ) (work : BackupWork) → IsTaskOf job work task → HasTask (load_of job lists) work
    has_is job work t f =
        let a = uid_counts f job in
        let b = own_counts f job work uid task t in
        let c = law.less (of_uid uid (of_job job (of_backup f))) (of_job job (of_backup f)) lists (λ u x. uid_below uid (of_job job (of_backup f)) u x) in
        omega arith

  finish_is : (lists : Lists) (lease : Lease) (job : ℕ) (work : BackupWork) (task : SeenTask) → HasUidsOnce lists → is_leased lease.until lease.uid lists ≡ true → task_at lease.uid lists ≡ Some task → IsTaskOf job work task → (f : BackupWork → ℕ) → load_of job (after_finish lease lists) f + f work ≡ load_of job lists f
  finish_is lists lease job work task once leased at t f =
      let a = uid_counts lists lease.uid task once at f job in
      let b = own_counts f job work lease.uid task t in
      let c = law.finish (of_job job (of_backup f)) lease lists once leased in
      omega arith

  finish_other_is : (lists : Lists) (lease : Lease) (job : ℕ) (task : SeenTask) → HasUidsOnce lists → task_at lease.uid lists ≡ Some task → task.job ≢ job → (f : BackupWork → ℕ) → load_of job (after_finish lease lists) f ≡ load_of job lists f
  finish_other_is lists lease job task once at n f = ⊎_elim
      (λ leased.
      let a = uid_counts lists lease.uid task once at f job in
      let b = other_counts f job lease.uid task n in
      let c = law.finish (of_job job (of_backup f)) lease lists once leased in
      omega arith)
      (λ e. ap (λ l. load_of job l f) (law.finish_none lease lists e))
      (cases_Bool (is_leased lease.until lease.uid lists))

  pub bucket_law : BucketLaw
  bucket_law = record {
    sums = sums_are;
    has = λ lists job uid work task once at t. has_is lists uid task once at job work t;
    finish = finish_is;
    add = λ lists job uid work task t f. let a = law.add (of_job job (of_backup f)) uid task lists in let b = own_counts f job work uid task t in omega arith;
    add_asleep = λ lists job until uid work task t f. let a = law.add_asleep (of_job job (of_backup f)) until uid task lists in let b = own_counts f job work uid task t in omega arith;
    finish_other = finish_other_is;
    add_other = λ lists job uid task n f. let a = law.add (of_job job (of_backup f)) uid task lists in let b = other_counts f job uid task n in omega arith;
    add_asleep_other = λ lists job until uid task n f. let a = law.add_asleep (of_job job (of_backup f)) until uid task lists in let b = other_counts f job uid task n in omega arith;
    drop = λ job lists f. law.drop_job job lists (of_backup f);
  }
