use Rattle.tac_build.proofs.homes.+homes.Goals as goal

pub register_home-returns-in-Local-clause-stands :
    goal.register_home-returns-in-Local-clause-stands
register_home-returns-in-Local-clause-stands t c = λ table homes. c.in_register.ensures.stands table (c.home_of.ensures.stands table homes)
