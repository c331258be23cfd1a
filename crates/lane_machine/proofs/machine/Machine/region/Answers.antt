use Rattle.std.proofs.Common.{ap, sum, subst, sym, arith}
use Rattle.wg_num.specs.Operators.{lanes_of}
use Rattle.wg_num.specs.declared.types.Width.{Width}
use Rattle.cl_model.specs.View.{launch_of}
use Rattle.lane_code.specs.View.{plain_of}
use Rattle.lane_machine.specs.Machinery.{Machinery, room_at}
use Rattle.lane_machine.specs.Room.{HasRoom}
use Rattle.lane_machine.proofs.SizeLaws.{sizes_fit}
use Rattle.lane_machine.proofs.ZeroLaws.{has_names}
use Rattle.lane_machine.proofs.machine.Machine.region.Goals as goal

pub region_at-requires : goal.region_at-requires
region_at-requires c =
    let p = plain_of c.args.program.now in
    let sizes = sizes_fit p.params (sum p.locals) c.args.launch.now c.requires.launch in
    let room = subst (λ (m : Machinery). HasRoom c.args.code.now.counts (room_at c.args.program.now.width m))
    (sym c.self.view_is) c.requires.room in
    let there = subst (λ (w : Width). HasRoom c.args.code.now.counts (room_at w (record {
      tally = c.self.inside.tally;
      one = c.self.inside.one.room;
      four = c.self.inside.four.room;
      eight = c.self.inside.eight.room;
      sixteen = c.self.inside.sixteen.room;
    }))) c.in-W1.is room in (
      omega arith,
      (
        omega arith,
        (
          omega arith,
          (
            ap lanes_of c.in-W1.is,
            (
              c.requires.code,
              (
                c.requires.flat,
                (
                  sizes,
                  (
                    c.requires.chunk,
                    (
                      c.requires.number,
                      ((has_names p (launch_of c.args.launch.now) c.args.group.now.kept c.requires.made), there),
                    ),
                  ),
                ),
              ),
            ),
          ),
        ),
      ),
    )

pub region_at-requires-in-W4 : goal.region_at-requires-in-W4
region_at-requires-in-W4 c =
    let p = plain_of c.args.program.now in
    let sizes = sizes_fit p.params (sum p.locals) c.args.launch.now c.requires.launch in
    let room = subst (λ (m : Machinery). HasRoom c.args.code.now.counts (room_at c.args.program.now.width m))
    (sym c.self.view_is) c.requires.room in
    let there = subst (λ (w : Width). HasRoom c.args.code.now.counts (room_at w (record {
      tally = c.self.inside.tally;
      one = c.self.inside.one.room;
      four = c.self.inside.four.room;
      eight = c.self.inside.eight.room;
      sixteen = c.self.inside.sixteen.room;
    }))) c.in-W4.is room in (
      omega arith,
      (
        omega arith,
        (
          omega arith,
          (
            ap lanes_of c.in-W4.is,
            (
              c.requires.code,
              (
                c.requires.flat,
                (
                  sizes,
                  (
                    c.requires.chunk,
                    (
                      c.requires.number,
                      ((has_names p (launch_of c.args.launch.now) c.args.group.now.kept c.requires.made), there),
                    ),
                  ),
                ),
              ),
            ),
          ),
        ),
      ),
    )

pub region_at-requires-in-W8 : goal.region_at-requires-in-W8
region_at-requires-in-W8 c =
    let p = plain_of c.args.program.now in
    let sizes = sizes_fit p.params (sum p.locals) c.args.launch.now c.requires.launch in
    let room = subst (λ (m : Machinery). HasRoom c.args.code.now.counts (room_at c.args.program.now.width m))
    (sym c.self.view_is) c.requires.room in
    let there = subst (λ (w : Width). HasRoom c.args.code.now.counts (room_at w (record {
      tally = c.self.inside.tally;
      one = c.self.inside.one.room;
      four = c.self.inside.four.room;
      eight = c.self.inside.eight.room;
      sixteen = c.self.inside.sixteen.room;
    }))) c.in-W8.is room in (
      omega arith,
      (
        omega arith,
        (
          omega arith,
          (
            ap lanes_of c.in-W8.is,
            (
              c.requires.code,
              (
                c.requires.flat,
                (
                  sizes,
                  (
                    c.requires.chunk,
                    (
                      c.requires.number,
                      ((has_names p (launch_of c.args.launch.now) c.args.group.now.kept c.requires.made), there),
                    ),
                  ),
                ),
              ),
            ),
          ),
        ),
      ),
    )

pub region_at-requires-in-W16 : goal.region_at-requires-in-W16
region_at-requires-in-W16 c =
    let p = plain_of c.args.program.now in
    let sizes = sizes_fit p.params (sum p.locals) c.args.launch.now c.requires.launch in
    let room = subst (λ (m : Machinery). HasRoom c.args.code.now.counts (room_at c.args.program.now.width m))
    (sym c.self.view_is) c.requires.room in
    let there = subst (λ (w : Width). HasRoom c.args.code.now.counts (room_at w (record {
      tally = c.self.inside.tally;
      one = c.self.inside.one.room;
      four = c.self.inside.four.room;
      eight = c.self.inside.eight.room;
      sixteen = c.self.inside.sixteen.room;
    }))) c.in-W16.is room in (
      omega arith,
      (
        omega arith,
        (
          omega arith,
          (
            ap lanes_of c.in-W16.is,
            (
              c.requires.code,
              (
                c.requires.flat,
                (
                  sizes,
                  (
                    c.requires.chunk,
                    (
                      c.requires.number,
                      ((has_names p (launch_of c.args.launch.now) c.args.group.now.kept c.requires.made), there),
                    ),
                  ),
                ),
              ),
            ),
          ),
        ),
      ),
    )
