use Rattle.std.proofs.Common.{◌≡◌, [], length, sym, ap, subst, ◌∙◌, arith}
use Rattle.std.specs.Prelude.{All}
use Rattle.snapshots.specs.Workers.{WorkerState}
use Rattle.steer.specs.LivePhases.{IsLiveStart}
use Rattle.steer.specs.LiveSteps.{HaveTurned, HasKept}
use Rattle.steer.specs.declared.admin_side.AdminSide.{AdminSide}
use Rattle.steer.proofs.LiveLemmas.{all_ready, lent_back, on_ok}
use Rattle.steer.proofs.live_run.open_run.Goals as goal

pub keep_all-requires : goal.keep_all-requires
keep_all-requires g c = record {
  as_many = ap length c.as_mut_slice.ensures.value ∙ c.in_ok-end.ensures.as_many;
  empty = subst (All (λ (w : WorkerState). w.log ≡ [])) (sym c.as_mut_slice.ensures.value) (λ k d lt. let f = c.in_ok-end.ensures.workers k d lt in f.log);
}

pub returns : goal.returns
returns g c =
    let end = c.in_ok-end.end in
    let items = c.in_ok-end.readers.items in
    let kept = c.keep_all.new.readers in
    let R = HasKept c.args.n c.args.workers in
    let lent : HaveTurned R c.args.workers c.as_mut_slice.result.now kept = on_ok c.keep_all.result (HaveTurned R c.args.workers c.as_mut_slice.result.now kept) (sym c.is_err.ensures.value ∙ c.if-is_err.false) c.keep_all.ensures in
    let turned : HaveTurned R c.args.workers items kept = subst (λ ws. HaveTurned R c.args.workers ws kept) c.as_mut_slice.ensures.value lent in
    let back = lent_back c.in_ok-end.readers.len kept items turned.as_many (omega (arith, c.in_ok-end.readers.ok.0)) in
    let side : AdminSide = record { device = c.in_ok-device.device; end = end; replies = c.in_ok-replies.replies } in
    let is : IsLiveStart c.args.caps c.args.start c.args.commands c.args.n c.args.workers side kept = record {
      device = c.in_ok-device.ensures.state;
      replies = c.in_ok-replies.ensures.items;
      room = omega (arith, c.in_ok-replies.ensures.exact);
      list = c.in_ok-end.ensures.list;
      limits = c.in_ok-end.ensures.limits ∙ c.limits.ensures.value;
      as_many = turned.as_many ∙ c.in_ok-end.ensures.as_many;
      ready = all_ready end c.args.n c.args.workers items kept c.in_ok-end.ensures.as_many c.in_ok-end.ensures.workers turned;
    } in
    subst (IsLiveStart c.args.caps c.args.start c.args.commands c.args.n c.args.workers side) (sym back) is
